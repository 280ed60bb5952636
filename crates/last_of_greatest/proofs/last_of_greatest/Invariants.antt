-- Of the first i interrupts, the highest processor, what its interrupts ask and where that steps last, and the same of the greatest over
-- processors.
use Prim.Native.Nat.{◌*◌}
use Rattle.interrupting.specs.Interrupts.{bounds_of}
use Rattle.steps.proofs.RisenLaws.{Risen}
use Rattle.last_of_greatest.proofs.last_of_greatest.Given as goal

abbrev pub invariant-loop-i : goal.invariant-loop-i
invariant-loop-i l = Risen (bounds_of l.loads (3 * l.n) l.i) l.hi l.processor l.sum l.last l.greatest l.risen
