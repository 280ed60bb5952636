-- The figures of the first `i` lines are filled in.
use Rattle.std.proofs.Common.{◌*◌}
use Rattle.tasks.specs.Set.{most_tasks}
use Rattle.planfigures.specs.Figures.{server_figures}
use Rattle.framelines.proofs.FillLaws.{Filled}
use Rattle.server_values.proofs.server_values.Given as goal

abbrev pub invariant-loop-i : goal.invariant-loop-i
invariant-loop-i l = Filled (server_figures l.fn.plan.server l.fn.plan.slot) (4 * most_tasks) l.fn.plan.servers l.values l.i
