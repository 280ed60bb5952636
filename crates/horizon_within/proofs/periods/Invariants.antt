-- The periods of the interrupts passed are filled in.
use Rattle.rows.proofs.FileOrder.{PeriodsTo}
use Rattle.horizon_within.proofs.periods.Given as goal

abbrev pub invariant-loop-i : goal.invariant-loop-i
invariant-loop-i l = PeriodsTo l.interrupts.each l.i l.numbers
