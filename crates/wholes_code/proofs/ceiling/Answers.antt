-- `wholes::ceiling` meets its contract: the test on the remainder picks the case of `ceiling_of`.
-- Assumes nothing.
use borrow.Author.Tests.{eq-eqb, ne_eqb}
use native.Mathlib.Omega.{arith}
use Rattle.wholes.specs.Ceiling.{ceiling_of}
use Rattle.wholes.proofs.CeilingLaws.{quotient_below}
use Rattle.wholes_code.proofs.ceiling.Goals as goal

pub overflow_add-result : goal.overflow_add-result
overflow_add-result c = omega (arith, quotient_below c.args.a c.args.b c.requires c.if-whole.false)

pub returns-then-whole : goal.returns-then-whole
unfolding ceiling_of
returns-then-whole c = simp (eq-eqb _ _ c.if-whole.true) (omega arith)

pub returns-else-whole : goal.returns-else-whole
unfolding ceiling_of
returns-else-whole c = simp (ne_eqb _ _ c.if-whole.false)
