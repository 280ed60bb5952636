-- `answerwords::fit_stand` meets its contract: the words of an idle processor, or of one that runs a server.
-- Assumes nothing.
use Rattle.wordline.specs.Words.{signs}
use Rattle.wordline.proofs.LineLaws.{lined_as}
use Rattle.answerwords.proofs.AnswerLaws.{idle_line, runs_line}
use borrow.Author.Rules.{rules}
use Rattle.fit_stand.proofs.fit_stand.Goals as goal

pub fit_words-requires : goal.fit_words-requires
unfolding signs
fit_words-requires c = search rules

pub fit_words-requires-2 : goal.fit_words-requires-2
unfolding signs
fit_words-requires-2 c = search rules

pub returns : goal.returns
returns c =
    let a = c.args in
    lined_as c.fit_words-2.ensures (runs_line a.server a.left a.processor a.tick c.if-idle.false)

pub returns-then-idle : goal.returns-then-idle
returns-then-idle c =
    let a = c.args in
    lined_as c.fit_words.ensures (idle_line a.server a.left a.processor a.tick c.if-idle.true)
