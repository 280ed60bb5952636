-- `common_measure` meets its contract. The loop's invariant: the two numbers have the common measure of a and b.
-- The measure is the second number. Assumes nothing.
use mathlib.Core.Path.{sym, ap, ◌∙◌}
use native.Mathlib.Nat.{mod-lt}
use native.Mathlib.Omega.{arith}
use Rattle.wholes.specs.Measure.{common_measure}
use Rattle.wholes.proofs.MeasureLaws.{measure_zero, measure_turn}
use Rattle.least_multiple.proofs.common_measure.Goals as goal

pub loop-second-smaller : goal.loop-second-smaller
loop-second-smaller c = mod-lt _ (omega (arith, c.loop-second-test.true))

pub loop-second-preserved : goal.loop-second-preserved
loop-second-preserved c = measure_turn _ _ ∙ c.loop-second.invariant

pub returns : goal.returns
returns c =
    let l = c.loop-second in
    sym (measure_zero l.first) ∙ ap (common_measure l.first) (omega (arith, c.loop-second-test.false)) ∙ l.invariant
