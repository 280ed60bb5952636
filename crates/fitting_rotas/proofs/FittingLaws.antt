-- The rota of a set under a fitting placement stands: each server has its smallest reserve, a lawful demand, and some demand.
-- Assumes nothing.
use Prim.Native.Nat.{ℕ, ◌≤◌}
use mathlib.Core.Path.{subst}
use mathlib.Core.List.{List}
use native.Mathlib.Numerals.{sub-one}
use native.Mathlib.Omega.{arith}
use lib.ListN.{get_or}
use Rattle.demand.specs.Load.{Every}
use Rattle.verdict.specs.Reserve.{Smallest}
use Rattle.tasks.specs.declared.set.TaskSet.{TaskSet}
use Rattle.places.specs.Places.{chosen}
use Rattle.loads.specs.Charge.{Member, server_loss}
use Rattle.loads.specs.Figures.{Figures}
use Rattle.members.specs.Server.{SoundBoard, server_demand, server_horizon}
use Rattle.members.proofs.FiledLaws.{every_chosen}
use Rattle.members.proofs.ServerLaws.{server_lawful}
use Rattle.servers.specs.Placement.{servers_in}
use Rattle.servers.specs.Fitting.{Fitting}
use Rattle.servers.proofs.FittingLaws.{fitting_asks}
use Rattle.sizing.specs.Reserve.{reserves_of}
use Rattle.sizing.proofs.Claims.{smallest_reserves}
use Rattle.setfigures.specs.Figures.{set_figures}
use Rattle.setfigures.specs.Board.{set_board}
use Rattle.rows.specs.Rows.{Chargeable}
use Rattle.rows.proofs.Clears.{set_board_lem, figures_members}
use Rattle.rotas.specs.Rota.{IsServer, StandingServer, Standing}
use Rattle.fitting_rotas.specs.Rota.{rota_of}

module _ (set : TaskSet) (placement : List ℕ) (clear : Chargeable set) (fitting : Fitting (set_board set) (set_figures set) placement) where
  sound : SoundBoard (set_board set)
  sound = set_board_lem set clear

  -- each task may be charged
  ok : Every (Member set.header) (set_figures set)
  ok = figures_members set clear

  -- the members of server q
  abbrev ms : ℕ → List Figures
  ms q = chosen (set_figures set) placement q

  members_ok : (q : ℕ) → Every (Member set.header) (ms q)
  members_ok q = every_chosen (Member set.header) (set_figures set) placement q ok

  module _ (q : ℕ) (s : IsServer (rota_of set placement) q) where
    -- the server is one of those of the placement
    placed : q ≤ servers_in placement
    placed = omega (arith, s.there, (smallest_reserves (set_board set) (set_figures set) placement sound ok fitting).0)

    server_stands : StandingServer (rota_of set placement) q
    server_stands =
        let some = fitting_asks (set_board set) (set_figures set) placement q ok fitting s.some placed in
        record {
          smallest = subst
              (λ (i : ℕ). Smallest (server_demand (set_board set) (ms q)) set.header.slot (server_loss set.header (ms q)) (get_or (reserves_of (set_board set) (set_figures set) placement) i 0))
              (sub-one q) ((smallest_reserves (set_board set) (set_figures set) placement sound ok fitting).1 q s.some placed);
          horizon = server_horizon (set_board set) (ms q);
          lawful = server_lawful (set_board set) (ms q) (members_ok q) sound;
          long = some.0;
          demanded = some.1;
        }

  pub rota_stands : Standing (rota_of set placement)
  rota_stands = record { slot_some = sound.slot; servers = server_stands }
