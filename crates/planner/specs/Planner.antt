-- What planning a set answers: the first refusal of row 11, rows 5 to 9, row 13 and row 10, or the plan.
-- Document 01, "Refusal numbers and their order" (RULES 6); document 02, Req 08.
use Rattle.std.specs.Prelude.{ℕ, Bool, false, ◌≡◌, ltb, Err, Ok}
use Rattle.refusals.specs.declared.Refusal.TheVariants.{Full, Ask, Alone}
use Rattle.refusals.specs.Refused.{Outcome}
use Rattle.tasks.specs.declared.set.TaskSet.{TaskSet}
use Rattle.tasks.specs.Set.{members}
use Rattle.tasks.specs.Search.{first_task, at_task}
use Rattle.refusals.specs.First.{first_of, when}
use Rattle.taskask.specs.Ask.{ask_row}
use Rattle.reserves.specs.Reserves.{processors_of}
use Rattle.plan.specs.declared.plan.Plan.{Plan}
use Rattle.planner.specs.declared.PlanAnswer.{PlanAnswer}
use Rattle.rows.specs.Rows.{charged_outcome}
use Rattle.alonerow.specs.Alone.{alone_row}
use Rattle.layout.specs.Made.{plan_made, set_reserves}
use Rattle.plan.specs.Plan.{zero_plan}

-- the processors that a set's plan needs: r + whole processors
unfoldable pub needed : TaskSet → ℕ
needed set = processors_of set.header.slot (set_reserves set)

-- 10 BOARDS FULL: r + whole processors > m
unfoldable pub full_row : TaskSet → Bool
full_row set = ltb set.header.processors (needed set)

-- row 11 and rows 5 to 9 are clear: the tasks can be placed
pub record Clear (set : TaskSet) : Type 0 where
  pub carried : ask_row set ≡ false
  pub charged : charged_outcome set ≡ Ok tt

-- row 13 is clear too: a plan can be laid
pub record Placeable (set : TaskSet) : Type 0 where
  pub clear : Clear set
  pub alone : first_task (alone_row set) (members set) ≡ 0

-- 11 first; then rows 5 to 9, 13, and 10
unfoldable pub plan_outcome : TaskSet → Outcome
plan_outcome set =
    first_of (when (ask_row set) Ask)
    (first_of (charged_outcome set)
    (first_of (at_task Alone (first_task (alone_row set) (members set))) (when (full_row set) (Full (needed set)))))

-- a refused plan is the all-zero plan
abbrev pub answer : Outcome → Plan → PlanAnswer
answer (Ok _) plan = record { outcome = Ok tt; plan = plan }
answer (Err r) plan = record { outcome = Err r; plan = zero_plan }

unfoldable pub plan_of : TaskSet → PlanAnswer
plan_of set = answer (plan_outcome set) (plan_made set)
