-- Between the stretch and server i + 1 nothing stands on the ring.
use Rattle.std.proofs.Common.{take}
use Rattle.reserves.specs.Reserves.{ring_ticks}
use Rattle.reserves.proofs.SummedLaws.{Summed}
use Rattle.stretch.proofs.stand_after.Given as goal

abbrev pub invariant-loop-i : goal.invariant-loop-i
invariant-loop-i l = Summed (ring_ticks l.slot) l.reserves l.n (ring_ticks l.slot (take l.server l.reserves)) l.i
