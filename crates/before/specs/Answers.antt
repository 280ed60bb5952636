-- What the tool, the questions and the switch list answered of a task file before a request.
use Rattle.std.specs.Prelude.{ℕ, List, Err, Ok}
use Rattle.refusals.specs.Refused.{Written}
use Rattle.tasks.specs.declared.set.TaskSet.{TaskSet}
use Rattle.ring.specs.declared.clock.Tick.{Tick}
use Rattle.planlines.specs.Line.{refusal_text}
use Rattle.planfit.specs.Fit.{fitted}
use Rattle.taskplan.specs.declared.FileAnswer.{FileAnswer}
use Rattle.taskplan.specs.File.{unless, refused_file}
use Rattle.planfile.specs.Tool.{printed}
use Rattle.whoruns.specs.declared.WhoAnswer.{WhoAnswer}
use Rattle.whoruns.specs.WhoRuns.{refused_who}
use Rattle.doespass.specs.declared.PassAnswer.{PassAnswer}
use Rattle.doespass.specs.DoesPass.{refused_pass}
use Rattle.switchlist.specs.Write.{plan_switches}
use Rattle.before.specs.Earlier.{Earlier}
use Rattle.before.specs.Reading.{had_read}
use Rattle.before.specs.Planning.{had_plan, had_who, had_pass}

-- a file's set and plan, or its refusal
unfoldable pub had_planned : Earlier → TaskSet → FileAnswer
had_planned e set = unless refused_file (had_plan e set).outcome (record { outcome = Ok tt; set = set; plan = (had_plan e set).plan })

unfoldable pub had_filed : Earlier → List ℕ → FileAnswer
had_filed e text = unless refused_file (had_read e text).outcome (had_planned e (had_read e text).set)

-- the bytes that `rota` printed
unfoldable pub had_answered : Earlier → List ℕ → List ℕ
had_answered e text = printed (had_filed e text)

-- the bytes that `switches` printed, and the list in a lent buffer
unfoldable pub had_switched : Earlier → List ℕ → List ℕ
had_switched e text = unless refusal_text (had_filed e text).outcome (plan_switches (had_filed e text).plan)

unfoldable pub had_listed : Earlier → (text buffer : List ℕ) → Written
had_listed e text buffer = unless Err (had_filed e text).outcome (fitted buffer (plan_switches (had_filed e text).plan))

-- the two questions of a file
unfoldable pub had_who_in : Earlier → List ℕ → (p : ℕ) → Tick → WhoAnswer
had_who_in e text p x = unless refused_who (had_filed e text).outcome (had_who e (had_filed e text).set (had_filed e text).plan p x)

unfoldable pub had_pass_in : Earlier → List ℕ → (q R : ℕ) → PassAnswer
had_pass_in e text q R = unless refused_pass (had_filed e text).outcome (had_pass e (had_filed e text).set (had_filed e text).plan q R)
