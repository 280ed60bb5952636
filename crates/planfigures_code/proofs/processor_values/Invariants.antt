use Prim.Native.Nat.{◌*◌}
use Rattle.tasks.specs.Set.{most_processors}
use Rattle.planfigures.specs.Figures.{processor_figures}
use Rattle.framelines.proofs.FillLaws.{Filled}
use Rattle.planfigures_code.proofs.processor_values.Given as goal

abbrev pub invariant-loop-i : goal.invariant-loop-i
invariant-loop-i l = Filled (processor_figures l.fn.first) (3 * most_processors) l.n l.values l.i
