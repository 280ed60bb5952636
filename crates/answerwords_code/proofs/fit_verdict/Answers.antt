-- `answerwords::fit_verdict` meets its contract: the words of a yes, or of a no.
-- Assumes nothing.
use Rattle.wordline.specs.Words.{signs}
use Rattle.wordline.proofs.LineLaws.{lined_as}
use Rattle.answerwords.proofs.AnswerLaws.{yes_line, no_line}
use borrow.Author.Rules.{rules}
use Rattle.answerwords_code.proofs.fit_verdict.Goals as goal

pub fit_words-requires : goal.fit_words-requires
unfolding signs
fit_words-requires c = search rules

pub fit_words-requires-in-No : goal.fit_words-requires-in-No
unfolding signs
fit_words-requires-in-No c = search rules

pub returns-in-No : goal.returns-in-No
returns-in-No c =
    let a = c.args in
    lined_as c.fit_words-in-No.ensures (no_line a.server a.reserve c.in-No.is)

pub returns-in-Yes : goal.returns-in-Yes
returns-in-Yes c =
    let a = c.args in
    lined_as c.fit_words.ensures (yes_line a.server a.reserve c.in-Yes.is c.ticks_to_spare-spare.ensures)
