-- The figures are compared in the definition's order, then the places of equally many tasks. Assumes nothing.
use Rattle.std.proofs.Common.{take, arith, nat_eq, ◌∙◌}
use Rattle.planagree.specs.Agrees.{same_server}
use Rattle.planagree.proofs.Fronts.{pointwise_alike}
use Rattle.planagree_code.proofs.same_server.Goals as goal

pub returns-then-a-b-2 : goal.returns-then-a-b-2
unfolding same_server
returns-then-a-b-2 c = grind (arith, c.eq-then-a-b-2.ensures ∙ pointwise_alike nat_eq (take c.args.b.count c.args.a.places) (take c.args.b.count c.args.b.places))

pub returns-else-a-b-2 : goal.returns-else-a-b-2
unfolding same_server
returns-else-a-b-2 c = grind arith
