-- The next place holds the first reserve of its processor.
-- Assumes nothing.
use Rattle.std.proofs.Common.{arith, refl}
use Rattle.places.proofs.PaddedLaws.{filled_none, filled_next, filled_all}
use Rattle.layout_code.proofs.first_reserves.Goals as goal

pub loop-i-init : goal.loop-i-init
loop-i-init c = filled_none _

pub first-requires : goal.first-requires
first-requires c = (c.requires.0, omega arith, omega (arith, c.requires.1))

pub loop-i-preserved : goal.loop-i-preserved
loop-i-preserved c = filled_next c.loop-i.invariant refl (omega arith) c.first.ensures

pub returns : goal.returns
returns c = filled_all c.loop-i.invariant (omega arith)
