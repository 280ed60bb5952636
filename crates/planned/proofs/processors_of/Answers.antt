-- `processors_of` meets its contract: the two sums are few, since there are no more processors than servers.
-- Assumes nothing.
use Prim.Native.Nat.{◌+◌}
use mathlib.Core.Path.{ap₂}
use native.Mathlib.Omega.{arith}
use Rattle.layout.proofs.Layouts.{sum_few}
use Rattle.planned.proofs.processors_of.Goals as goal

pub overflow_add-result : goal.overflow_add-result
overflow_add-result c =
    omega (arith, sum_few c.requires c.ring_processors-ring.ensures c.whole_count-whole.ensures, c.requires.few)

pub returns : goal.returns
returns c = ap₂ ◌+◌ c.ring_processors-ring.ensures c.whole_count-whole.ensures
