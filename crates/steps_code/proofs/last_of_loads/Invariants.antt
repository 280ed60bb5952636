-- `last` is the last step up to hi of the first i loads, or 0 where there is none.
use mathlib.Core.Path.{◌≡◌}
use Rattle.demand.specs.Load.{loads_of}
use Rattle.demand.specs.Demand.{demand}
use Rattle.steps.proofs.RisenLaws.{last_of}
use Rattle.steps_code.proofs.last_of_loads.Given as goal

abbrev pub invariant-loop-i : goal.invariant-loop-i
invariant-loop-i l = l.last ≡ last_of (demand (loads_of l.loads l.i)) l.hi
