-- `end` is where the first i reserves end, and the position is not before it.
use Rattle.std.proofs.Common.{◌≤◌}
use Rattle.reserves.specs.Reserves.{ring_ticks}
use Rattle.reserves.proofs.SummedLaws.{Summed}
use Rattle.ring_code.proofs.stand_at.Given as goal

abbrev pub invariant-loop-i : goal.invariant-loop-i
invariant-loop-i l = Summed (ring_ticks l.slot) l.reserves l.n l.end l.i × (l.end ≤ l.place)
