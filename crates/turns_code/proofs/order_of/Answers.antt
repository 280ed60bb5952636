-- `order_of` meets its contract, third by third. Assumes nothing.
use Rattle.turns_code.proofs.RuleLaws.{order_third, order_last}
use Rattle.turns_code.proofs.order_of.Goals as goal

pub returns-then-third-eq0 : goal.returns-then-third-eq0
returns-then-third-eq0 c = order_third c.args.rule 0 c.if-third-eq0.true

pub returns-then-third-eq1 : goal.returns-then-third-eq1
returns-then-third-eq1 c = order_third c.args.rule 1 c.if-third-eq1.true

pub returns : goal.returns
returns c = order_last c.args.rule c.if-third-eq0.false c.if-third-eq1.false
