-- What writing a plan answers: ASK where the planner does not make it of the set, then ROOM, else the length of the exact text.
-- Document 01, rows 11 and 12 of the refusals (RULES 6.5).
use Rattle.std.specs.Prelude.{ℕ, List}
use Rattle.refusals.specs.Refused.{Written}
use Rattle.tasks.specs.declared.set.TaskSet.{TaskSet}
use Rattle.plan.specs.declared.plan.Plan.{Plan}
use Rattle.plancheck.specs.Makes.{makes}
use Rattle.plantext.specs.Text.{plan_text}
use Rattle.planfit.specs.Fit.{write_of}

abbrev pub write_plan : TaskSet → Plan → (buffer : List ℕ) → Written
write_plan set plan buffer = write_of (makes set plan) buffer (plan_text set plan)
