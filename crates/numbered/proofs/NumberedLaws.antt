-- Laws of a plan's numbers: how many they are, and its parts stored one behind the other.
-- Assumes nothing.
use Prim.Native.Nat.{ℕ, ◌*◌, ◌≤◌}
use mathlib.Core.Path.{◌≡◌, ◌∙◌}
use mathlib.Core.List.{List, ◌++◌}
use native.Mathlib.Omega.{arith}
use lib.ListN.{length, length-append}
use Rattle.digits.specs.Stored.{stored}
use Rattle.digits.proofs.Stored.{stored_length, stored_stored, stored_three}
use Rattle.tasks.specs.Set.{most_tasks}
use Rattle.framelines.specs.Lines.{joined}
use Rattle.framelines.proofs.LinesLaws.{joined_length}
use Rattle.plan.specs.declared.plan.Plan.{Plan}
use Rattle.handed.specs.Handed.{per_server, servers_at, placement_at, first_at, most_numbers}
use Rattle.numberedparts.specs.Parts.{server_numbers_at, stand_numbers_at}
use Rattle.numberedparts.proofs.PartsLaws.{servers_each, stands_each}
use Rattle.numbered.specs.Numbered.{plan_figures, plan_numbers}

-- a plan's numbers, where its placement has its places: how many they are, and its parts stored one behind the other
module _ (plan : Plan) (full : length plan.placement ≡ most_tasks) where
  servers_length : length (joined (server_numbers_at plan.server) most_tasks) ≡ most_tasks * per_server
  servers_length = joined_length (server_numbers_at plan.server) per_server (servers_each plan.server) most_tasks

  first_length : length (joined (stand_numbers_at plan.first) most_tasks) ≡ most_tasks * 2
  first_length = joined_length (stand_numbers_at plan.first) 2 (stands_each plan.first) most_tasks

  pub plan_length : length (plan_numbers plan) ≡ most_numbers
  unfolding plan_numbers
  plan_length =
      omega (
        arith,
        full,
        servers_length,
        first_length,
        length-append plan.placement (joined (stand_numbers_at plan.first) most_tasks),
        length-append (joined (server_numbers_at plan.server) most_tasks) (plan.placement ++ joined (stand_numbers_at plan.first) most_tasks),
      )

  pub plan_stored : (b : List ℕ) {w x y z : List ℕ} → most_numbers ≤ length b
      → w ≡ stored b 0 (plan_figures plan) → x ≡ stored w servers_at (joined (server_numbers_at plan.server) most_tasks)
      → y ≡ stored x placement_at plan.placement → z ≡ stored y first_at (joined (stand_numbers_at plan.first) most_tasks)
      → z ≡ stored b 0 (plan_numbers plan)
  unfolding plan_numbers
  plan_stored b fits e f g h =
      rw (h, g, f, e)
      (stored_three (stored b 0 (plan_figures plan)) servers_at servers plan.placement first placement_at first_at (omega (arith, servers_length)) (omega (arith, servers_length, full))
      (omega (arith, servers_length, full, first_length, stored_length b 0 (plan_figures plan) (omega arith)))
      ∙ stored_stored b 0 (plan_figures plan) (servers ++ (plan.placement ++ first)) (omega (arith, servers_length, full, first_length, length-append servers (plan.placement ++ first), length-append plan.placement first)))
    where
      servers : List ℕ
      servers = joined (server_numbers_at plan.server) most_tasks

      first : List ℕ
      first = joined (stand_numbers_at plan.first) most_tasks
