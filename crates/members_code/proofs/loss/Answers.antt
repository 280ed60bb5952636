-- `loss` meets its contract: the result is the definition's.
-- Assumes nothing.
use Rattle.members_code.proofs.loss.Goals as goal

pub returns : goal.returns
returns c = c.entry_loss.ensures
