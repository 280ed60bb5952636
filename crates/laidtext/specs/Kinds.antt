-- The texts of a plan: its own lines, and its switch list.
-- Document 01, "Lines of hexadecimal" (RULES 5); document 02, Req 01.
use Rattle.std.specs.Prelude.{ℕ, List}
use Rattle.tasks.specs.declared.set.TaskSet.{TaskSet}
use Rattle.plan.specs.declared.plan.Plan.{Plan}
use Rattle.plantext.specs.Text.{plan_text}
use Rattle.switchlist.specs.Write.{plan_switches}
use Rattle.laidtext.specs.declared.Text.{Text}

abbrev pub text_of : Text → TaskSet → Plan → List ℕ
text_of Text.Plan set plan = plan_text set plan
text_of Text.Switches set plan = plan_switches plan
