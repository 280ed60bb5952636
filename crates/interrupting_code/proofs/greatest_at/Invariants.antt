-- Of the first i interrupts, the highest processor, what its interrupts ask, and the greatest over processors.
use Prim.Native.Nat.{◌*◌}
use Rattle.interrupting.specs.Interrupts.{bounds_of}
use Rattle.interrupting.proofs.ReachedLaws.{Reached}
use Rattle.interrupting_code.proofs.greatest_at.Given as goal

abbrev pub invariant-loop-i : goal.invariant-loop-i
invariant-loop-i l = Reached (bounds_of l.loads (3 * l.n) l.i) l.t l.processor l.sum l.greatest
