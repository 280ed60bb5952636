use mathlib.Core.Path.{◌≡◌}
use Rattle.wholes.specs.Measure.{common_measure}
use Rattle.least_multiple.proofs.common_measure.Given as goal

abbrev pub invariant-loop-second : goal.invariant-loop-second
invariant-loop-second l = common_measure l.first l.second ≡ common_measure l.a l.b

abbrev pub decreases-loop-second : goal.decreases-loop-second
decreases-loop-second l = l.second
