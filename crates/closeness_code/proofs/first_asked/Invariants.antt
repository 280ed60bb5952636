-- `first` is where the loads and the first i interrupts begin to ask.
use Prim.Native.Nat.{◌+◌, ◌*◌}
use Rattle.demand.specs.Load.{loads_of}
use Rattle.demand.specs.Demand.{demand}
use Rattle.interrupting.specs.Interrupts.{bounds_of, greatest_of_all}
use Rattle.closeness.specs.Begins.{Begins}
use Rattle.closeness_code.proofs.first_asked.Given as goal

abbrev pub invariant-loop-i : goal.invariant-loop-i
invariant-loop-i l = Begins (λ t. demand (loads_of l.loads l.n) t + greatest_of_all (bounds_of l.loads (3 * l.n) l.i) t) l.first
