-- The sum is the demand of the first i loads.
use mathlib.Core.Path.{◌≡◌}
use Rattle.demand.specs.Load.{loads_of}
use Rattle.demand.specs.Demand.{demand}
use Rattle.demand_at.proofs.demand_at.Given as goal

abbrev pub invariant-loop-i : goal.invariant-loop-i
invariant-loop-i l = l.sum ≡ demand (loads_of l.loads l.i) l.t
