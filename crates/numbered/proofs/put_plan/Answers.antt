-- `numbered::put_plan` meets its contract: ROOM, or the plan's parts stored one behind the other. Assumes nothing.
use native.Mathlib.Omega.{arith}
use Rattle.told.proofs.ToldLaws.{told_room, told_stored}
use Rattle.numbered.specs.Numbered.{plan_numbers}
use Rattle.numbered.proofs.NumberedLaws.{plan_length, plan_stored}
use Rattle.numbered.proofs.put_plan.Goals as goal

pub returns-then-short-clause-value : goal.returns-then-short-clause-value
returns-then-short-clause-value c =
    (told_room (plan_numbers c.args.plan) c.args.answer.now (omega (arith, plan_length c.args.plan (omega arith))) c.code.ensures).0

pub returns-then-short-clause-answer_after : goal.returns-then-short-clause-answer_after
returns-then-short-clause-answer_after c =
    (told_room (plan_numbers c.args.plan) c.args.answer.now (omega (arith, plan_length c.args.plan (omega arith))) c.code.ensures).1

pub returns-clause-value : goal.returns-clause-value
returns-clause-value c =
    (told_stored (plan_numbers c.args.plan) c.args.answer.now (omega (arith, c.if-short.false, plan_length c.args.plan (omega arith)))
    (plan_stored c.args.plan (omega arith) c.args.answer.now c.if-short.false c.store.ensures c.put_servers.ensures c.store-2.ensures c.put_first.ensures)).0

pub returns-clause-answer_after : goal.returns-clause-answer_after
returns-clause-answer_after c =
    (told_stored (plan_numbers c.args.plan) c.args.answer.now (omega (arith, c.if-short.false, plan_length c.args.plan (omega arith)))
    (plan_stored c.args.plan (omega arith) c.args.answer.now c.if-short.false c.store.ensures c.put_servers.ensures c.store-2.ensures c.put_first.ensures)).1
