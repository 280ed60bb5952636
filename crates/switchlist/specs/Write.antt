-- The switch list of a plan, and what writing it answers: ASK where the planner does not make the plan of the set, then ROOM, else the
-- length of the exact text. Document 02, Req 01 (RULES 4.3 to 4.5), and document 01, rows 11 and 12 of the refusals (RULES 6.5).
use Rattle.std.specs.Prelude.{ℕ, List}
use Rattle.refusals.specs.Refused.{Written}
use Rattle.tasks.specs.declared.set.TaskSet.{TaskSet}
use Rattle.turn.specs.Switches.{switch_text}
use Rattle.plan.specs.declared.plan.Plan.{Plan}
use Rattle.plan.specs.Plan.{reserves_in}
use Rattle.plancheck.specs.Makes.{makes}
use Rattle.planfit.specs.Fit.{write_of}

-- the text of a plan's switches
abbrev pub plan_switches : Plan → List ℕ
plan_switches plan = switch_text plan.slot (reserves_in plan)

abbrev pub write_switches : TaskSet → Plan → (buffer : List ℕ) → Written
write_switches set plan buffer = write_of (makes set plan) buffer (plan_switches plan)
