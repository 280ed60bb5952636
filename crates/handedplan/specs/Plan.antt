-- The plan that is handed in as numbers: its five figures, each server, the placement, then the first reserve of each processor.
use Rattle.std.specs.Prelude.{ℕ, ◌+◌, ◌*◌, ◌-◌, List}
use Rattle.tasks.specs.Set.{most_tasks}
use Rattle.places.specs.Padded.{up_to}
use Rattle.ring.specs.declared.cover.Stand.{Stand}
use Rattle.plan.specs.declared.plan.Plan.{Plan}
use Rattle.handed.specs.Handed.{number_at, placement_at, first_at}
use Rattle.handedservers.specs.Servers.{servers_from}

abbrev pub placement_from : (numbers : List ℕ) → List ℕ
placement_from ns = up_to (λ (k : ℕ). number_at ns (placement_at + (k - 1))) most_tasks

abbrev pub stand_from : (numbers : List ℕ) (at : ℕ) → Stand
stand_from ns at = record { server = number_at ns at; left = number_at ns (at + 1) }

abbrev pub first_from : (numbers : List ℕ) → List Stand
first_from ns = up_to (λ (p : ℕ). stand_from ns (first_at + 2 * (p - 1))) most_tasks

unfoldable pub plan_from : (numbers : List ℕ) → Plan
plan_from ns =
    record {
      whole = number_at ns 0;
      ring = number_at ns 1;
      servers = number_at ns 2;
      slot = number_at ns 3;
      idle = number_at ns 4;
      server = servers_from ns;
      placement = placement_from ns;
      first = first_from ns;
    }
