-- When a plan that is handed in is the one that the planner makes of a set.
-- Document 01, "Refusal numbers and their order" (RULES 6.5).
use Rattle.std.specs.Prelude.{Bool, true, false, ◌&&◌, Err, Ok}
use Rattle.refusals.specs.Refused.{Outcome}
use Rattle.tasks.specs.declared.set.TaskSet.{TaskSet}
use Rattle.plan.specs.declared.plan.Plan.{Plan}
use Rattle.layout.specs.Made.{plan_made}
use Rattle.planner.specs.Planner.{plan_outcome}
use Rattle.planagree.specs.Agrees.{agrees}

abbrev pub is_done : Outcome → Bool
is_done (Ok _) = true
is_done (Err r) = false

-- the planner makes this plan of this set; unused room is not compared
unfoldable pub makes : TaskSet → Plan → Bool
makes set plan = is_done (plan_outcome set) && agrees set.count plan (plan_made set)
