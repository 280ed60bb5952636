-- `from` and `until` are the smallest and the largest deadline of the first i loads.
use mathlib.Core.Path.{◌≡◌}
use Rattle.demand.specs.Load.{loads_of}
use Rattle.masking.specs.Masking.{soonest, latest}
use Rattle.masking_code.proofs.gain_of.Given as goal

abbrev pub invariant-loop-i : goal.invariant-loop-i
invariant-loop-i l = (l.from ≡ soonest (loads_of l.loads l.i)) × (l.until ≡ latest (loads_of l.loads l.i))
