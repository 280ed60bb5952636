-- The reserve of the next server is written behind those that are there.
use Rattle.std.proofs.Common.{arith}
use Rattle.places.proofs.PaddedLaws.{filled_none, filled_next}
use Rattle.sizing_code.proofs.size.Goals as goal

pub loop-at-init : goal.loop-at-init
loop-at-init c = filled_none _

pub loop-at-preserved : goal.loop-at-preserved
loop-at-preserved c =
    filled_next c.loop-at.invariant (omega arith) (omega (arith, c.requires.n_in_bounds)) c.reserve_of.ensures
