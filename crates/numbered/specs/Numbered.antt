-- A plan told in numbers: its five figures, each server, the placement, then the first reserve of each processor.
-- The places are those from which a plan that is handed in is taken.
use Rattle.std.specs.Prelude.{ℕ, List, [], ◌∷◌, ◌++◌}
use Rattle.tasks.specs.Set.{most_tasks}
use Rattle.framelines.specs.Lines.{joined}
use Rattle.plan.specs.declared.plan.Plan.{Plan}
use Rattle.numberedparts.specs.Parts.{server_numbers_at, stand_numbers_at}

abbrev pub plan_figures : Plan → List ℕ
plan_figures plan = plan.whole ∷ plan.ring ∷ plan.servers ∷ plan.slot ∷ plan.idle ∷ []

unfoldable pub plan_numbers : Plan → List ℕ
plan_numbers plan =
    plan_figures plan ++
    (joined (server_numbers_at plan.server) most_tasks ++ (plan.placement ++ joined (stand_numbers_at plan.first) most_tasks))
