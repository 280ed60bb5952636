-- `told::put_numbers` meets its contract: ROOM, or the numbers stored at the answer's start. Assumes nothing.
use native.Mathlib.Omega.{arith}
use Rattle.told.proofs.ToldLaws.{told_room, told_stored}
use Rattle.tell.proofs.put_numbers.Goals as goal

pub returns-then-answer-numbers-clause-value : goal.returns-then-answer-numbers-clause-value
returns-then-answer-numbers-clause-value c =
    let a = c.args in
    (told_room a.numbers.now a.answer.now (omega arith) c.code.ensures).0

pub returns-then-answer-numbers-clause-answer_after : goal.returns-then-answer-numbers-clause-answer_after
returns-then-answer-numbers-clause-answer_after c =
    let a = c.args in
    (told_room a.numbers.now a.answer.now (omega arith) c.code.ensures).1

pub returns-clause-value : goal.returns-clause-value
returns-clause-value c =
    let a = c.args in
    (told_stored a.numbers.now a.answer.now c.if-answer-numbers.false c.store.ensures).0

pub returns-clause-answer_after : goal.returns-clause-answer_after
returns-clause-answer_after c =
    let a = c.args in
    (told_stored a.numbers.now a.answer.now c.if-answer-numbers.false c.store.ensures).1
