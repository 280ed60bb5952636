-- `read::answered` meets its contract: each arm is told which outcome it is.
use Rattle.std.specs.Prelude.{Err}
use mathlib.Core.Path.{sym, ap, ◌∙◌}
use Rattle.refusals.specs.Refused.{Outcome}
use Rattle.tasks.specs.declared.set.TaskSet.{TaskSet}
use Rattle.taskread.specs.declared.read.ReadAnswer.{ReadAnswer}
use Rattle.taskread.specs.Read.{answer}
use Rattle.read_finished.proofs.answered.Goals as goal

pub returns-in-Ok : goal.returns-in-Ok
returns-in-Ok c = sym (ap (λ (o : Outcome). answer o c.args.set) c.in-Ok.is)

pub returns-in-Err : goal.returns-in-Err
returns-in-Err c =
    let r = c.in-Err.refusal in
    let zeroed : TaskSet → ReadAnswer = λ set. record { outcome = Err r; set = set } in
    ap zeroed c.zero-none.ensures ∙ sym (ap (λ (o : Outcome). answer o c.args.set) c.in-Err.is)
