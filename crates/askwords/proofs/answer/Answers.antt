-- `askwords::answer` meets its contract, by the question.
-- Assumes nothing.
use mathlib.Core.Path.{sym, ap}
use Rattle.wordline.proofs.LineLaws.{lined_as}
use Rattle.askwords.specs.declared.Question.{Question}
use Rattle.askwords.specs.Question.{line_for}
use Rattle.askwords.proofs.QuestionLaws.{nothing_lined}
use Rattle.askwords.proofs.answer.Goals as goal

pub returns-in-Who : goal.returns-in-Who
unfolding line_for
returns-in-Who c =
    let a = c.args in
    lined_as c.who_line.ensures (ap (λ (q : Question). line_for q a.text.now) (sym c.in-Who.is))

pub returns-in-Pass : goal.returns-in-Pass
unfolding line_for
returns-in-Pass c =
    let a = c.args in
    lined_as c.pass_line.ensures (ap (λ (q : Question). line_for q a.text.now) (sym c.in-Pass.is))

pub returns-in-Unclear : goal.returns-in-Unclear
unfolding line_for
returns-in-Unclear c =
    let a = c.args in
    lined_as (nothing_lined a.out.now) (ap (λ (q : Question). line_for q a.text.now) (sym c.in-Unclear.is))
