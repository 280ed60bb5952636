-- `entry_loss` meets its contract: the sums fit, and the result is the definition's.
-- Assumes nothing.
use borrow.Author.Rules.{rules}
use Rattle.charging.specs.Charging.{entry_loss}
use Rattle.charging.proofs.entry_loss.Goals as goal

pub returns : goal.returns
unfolding entry_loss
returns c = search rules
