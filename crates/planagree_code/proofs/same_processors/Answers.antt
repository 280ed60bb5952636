-- The library's comparison of the first processors is the definition's, over equally many. Assumes nothing.
use Rattle.std.proofs.Common.{◌∙◌}
use Rattle.planagree.specs.Agrees.{same_stand, same_processors}
use Rattle.planagree.proofs.Fronts.{pointwise_alike}
use Rattle.planagree_code.proofs.same_processors.Goals as goal

pub returns : goal.returns
unfolding same_processors
returns c = rw c.requires.1 (c.eq.ensures ∙ pointwise_alike same_stand _ _)
