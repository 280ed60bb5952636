-- `told::tell` meets its contract: the numbers told, or the refusal handed on. Assumes nothing.
use Rattle.told.proofs.ToldLaws.{told_of_lem, told_refused}
use Rattle.tell.proofs.tell.Goals as goal

pub returns-in-Err-clause-answer_after : goal.returns-in-Err-clause-answer_after
returns-in-Err-clause-answer_after c =
    let a = c.args in
    (told_of_lem a.numbers.now a.answer.now c.in-Err.is (told_refused a.numbers.now a.answer.now _ c.code.ensures)).1

pub returns-in-Err-clause-value : goal.returns-in-Err-clause-value
returns-in-Err-clause-value c =
    let a = c.args in
    (told_of_lem a.numbers.now a.answer.now c.in-Err.is (told_refused a.numbers.now a.answer.now _ c.code.ensures)).0
