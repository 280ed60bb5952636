-- The figures are compared in the definition's order. Assumes nothing.
use Rattle.std.proofs.Common.{arith}
use Rattle.planagree.specs.Agrees.{same_figures}
use Rattle.planagree_code.proofs.same_figures.Goals as goal

pub returns-then-a-b-4 : goal.returns-then-a-b-4
unfolding same_figures
returns-then-a-b-4 c = grind arith

pub returns-else-a-b-4 : goal.returns-else-a-b-4
unfolding same_figures
returns-else-a-b-4 c = grind arith
