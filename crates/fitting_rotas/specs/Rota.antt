-- The rota of a set under a placement: the set's slot, the smallest reserve of each server, and what each server demands, its members
-- and the interrupts, and loses.
use Rattle.std.specs.Prelude.{ℕ, List}
use Rattle.tasks.specs.declared.set.TaskSet.{TaskSet}
use Rattle.places.specs.Places.{chosen}
use Rattle.loads.specs.Charge.{server_loss}
use Rattle.members.specs.Server.{server_demand}
use Rattle.sizing.specs.Reserve.{reserves_of}
use Rattle.setfigures.specs.Figures.{set_figures}
use Rattle.setfigures.specs.Board.{set_board}
use Rattle.rotas.specs.Rota.{Rota}

abbrev pub rota_of : TaskSet → (placement : List ℕ) → Rota
rota_of set placement =
    record {
      slot = set.header.slot;
      reserves = reserves_of (set_board set) (set_figures set) placement;
      demand_of = λ q. server_demand (set_board set) (chosen (set_figures set) placement q);
      loss_of = λ q. server_loss set.header (chosen (set_figures set) placement q);
    }
