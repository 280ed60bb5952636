-- `charged_cost` meets its contract: the sums fit, and the result is the definition's.
-- Assumes nothing.
use borrow.Author.Rules.{rules}
use Rattle.charging.specs.Charging.{effective_cost}
use Rattle.charging.proofs.charged_cost.Goals as goal

pub returns : goal.returns
unfolding effective_cost
returns c = search rules
