-- The plan that document 01 gives a set, with its placement, its reserves and its cache costs, and that of a set with any placement.
-- Document 01, "From tasks to servers to ring" (RULES 3); document 02, Req 07.
use Rattle.std.specs.Prelude.{ℕ, List}
use Rattle.tasks.specs.declared.set.TaskSet.{TaskSet}
use Rattle.servers.specs.Placement.{placement_of, caches_of}
use Rattle.sizing.specs.Reserve.{reserves_of}
use Rattle.setfigures.specs.Figures.{set_figures}
use Rattle.setfigures.specs.Board.{set_board}
use Rattle.plan.specs.declared.plan.Plan.{Plan}
use Rattle.layout.specs.Layout.{laid_out}

-- the reserve that document 01 gives each server of a placement of a set's tasks
unfoldable pub reserves_with : TaskSet → (placement : List ℕ) → List ℕ
reserves_with set placement = reserves_of (set_board set) (set_figures set) placement

-- and the cache cost of each
unfoldable pub caches_with : TaskSet → (placement : List ℕ) → List ℕ
caches_with set placement = caches_of (set_figures set) placement

-- the plan of a set with any placement
unfoldable pub plan_with : TaskSet → (placement : List ℕ) → Plan
plan_with set placement = laid_out set.header.slot (caches_with set placement) placement (reserves_with set placement)

-- the placement that document 01 gives a set, its reserves, its cache costs and its plan
unfoldable pub set_placement : TaskSet → List ℕ
set_placement set = placement_of (set_board set) (set_figures set)

unfoldable pub set_reserves : TaskSet → List ℕ
set_reserves set = reserves_with set (set_placement set)

unfoldable pub set_caches : TaskSet → List ℕ
set_caches set = caches_with set (set_placement set)

unfoldable pub plan_made : TaskSet → Plan
plan_made set = plan_with set (set_placement set)
