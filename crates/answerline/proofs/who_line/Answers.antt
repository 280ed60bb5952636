-- `answerline::who_line` meets its contract: the line of who stands there, or of the refusal.
-- Assumes nothing.
use Rattle.whoruns.specs.declared.WhoAnswer.{WhoAnswer}
use Rattle.planlines.specs.Line.{refusal_text}
use Rattle.taskplan.proofs.FileLaws.{when_done, when_refused}
use Rattle.answerwords.specs.Answers.{stand_line}
use Rattle.wordline.proofs.LineLaws.{lined_as}
use Rattle.answerline.proofs.LineLaws.{refusal_lined}
use Rattle.answerline.proofs.who_line.Goals as goal

pub returns-in-Ok : goal.returns-in-Ok
returns-in-Ok c =
    let a = c.args in
    lined_as c.fit_stand.ensures
    (when_done refusal_text (λ (w : WhoAnswer). w.outcome) (λ (w : WhoAnswer). stand_line w.server w.left a.processor a.tick) c.who_in-who.ensures c.in-Ok.is)

pub returns-in-Err : goal.returns-in-Err
returns-in-Err c =
    let a = c.args in
    let refusal = c.in-Err in
    lined_as (refusal_lined refusal.refusal c.fit_refusal.ensures)
    (when_refused refusal_text (λ (w : WhoAnswer). w.outcome) (λ (w : WhoAnswer). stand_line w.server w.left a.processor a.tick) c.who_in-who.ensures refusal.is)
