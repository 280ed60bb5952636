-- `answerwords::ticks_to_spare` meets its contract: 0, or the supply less the demand.
-- Assumes nothing.
use native.Mathlib.Omega.{arith}
use Rattle.answerwords_code.proofs.ticks_to_spare.Goals as goal

pub returns-then-lacking : goal.returns-then-lacking
returns-then-lacking c = omega (arith, c.if-lacking.true-raw)

pub returns : goal.returns
returns c = omega (arith, c.if-lacking.false-raw)
