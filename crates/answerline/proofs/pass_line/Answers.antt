-- `answerline::pass_line` meets its contract: the line of the verdict, or of the refusal.
-- Assumes nothing.
use Rattle.doespass.specs.declared.PassAnswer.{PassAnswer}
use Rattle.planlines.specs.Line.{refusal_text}
use Rattle.taskplan.proofs.FileLaws.{when_done, when_refused}
use Rattle.answerwords.specs.Answers.{verdict_line}
use Rattle.wordline.proofs.LineLaws.{lined_as}
use Rattle.answerline.proofs.LineLaws.{refusal_lined}
use Rattle.answerline.proofs.pass_line.Goals as goal

pub returns-in-Ok : goal.returns-in-Ok
returns-in-Ok c =
    let a = c.args in
    lined_as c.fit_verdict.ensures
    (when_done refusal_text (λ (w : PassAnswer). w.outcome) (λ (w : PassAnswer). verdict_line w.verdict a.server a.reserve) c.pass_in-pass.ensures c.in-Ok.is)

pub returns-in-Err : goal.returns-in-Err
returns-in-Err c =
    let a = c.args in
    let refusal = c.in-Err in
    lined_as (refusal_lined refusal.refusal c.fit_refusal.ensures)
    (when_refused refusal_text (λ (w : PassAnswer). w.outcome) (λ (w : PassAnswer). verdict_line w.verdict a.server a.reserve) c.pass_in-pass.ensures refusal.is)
