use Prim.Native.Nat.{◌*◌}
use Rattle.tasks.specs.Set.{most_tasks}
use Rattle.planfigures.specs.Figures.{placed_figures}
use Rattle.framelines.proofs.FillLaws.{Filled}
use Rattle.planfigures_code.proofs.placed_values.Given as goal

abbrev pub invariant-loop-i : goal.invariant-loop-i
invariant-loop-i l = Filled (placed_figures l.fn.set.tasks l.fn.placement) (2 * most_tasks) l.fn.set.count l.values l.i
