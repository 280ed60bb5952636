-- A task file taken to its set and its plan, or to the refusal of reading it or of planning it.
-- Document 01, "From tasks to servers to ring" (RULES 3): a refusal has the all-zero set and the all-zero plan.
use Rattle.std.specs.Prelude.{ℕ, List, Err, Ok}
use Rattle.refusals.specs.declared.Refusal.{Refusal}
use Rattle.refusals.specs.Refused.{Outcome}
use Rattle.tasks.specs.declared.set.TaskSet.{TaskSet}
use Rattle.tasks.specs.Set.{zero_set}
use Rattle.taskread.specs.Read.{read_of}
use Rattle.plan.specs.Plan.{zero_plan}
use Rattle.planner.specs.Planner.{plan_of}
use Rattle.taskplan.specs.declared.FileAnswer.{FileAnswer}

-- what a refusal makes of it, unless the outcome is done
abbrev pub unless : {A : Type 0} → (Refusal → A) → Outcome → A → A
unless refused (Ok _) a = a
unless refused (Err r) a = refused r

abbrev pub refused_file : Refusal → FileAnswer
refused_file r = record { outcome = Err r; set = zero_set; plan = zero_plan }

-- a set that was read, with the plan that the planner makes of it
unfoldable pub planned_set : TaskSet → FileAnswer
planned_set set = unless refused_file (plan_of set).outcome (record { outcome = Ok tt; set = set; plan = (plan_of set).plan })

unfoldable pub filed_of : List ℕ → FileAnswer
filed_of text = unless refused_file (read_of text).outcome (planned_set (read_of text).set)
