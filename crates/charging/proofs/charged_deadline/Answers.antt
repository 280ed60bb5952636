-- `charged_deadline` meets its contract: the sums fit, and the result is the definition's.
-- Assumes nothing.
use borrow.Author.Rules.{rules}
use Rattle.charging.specs.Charging.{effective_deadline}
use Rattle.charging.proofs.charged_deadline.Goals as goal

pub returns : goal.returns
unfolding effective_deadline
returns c = search rules
