-- `refused` meets its contract: the plan is the all-zero plan.
-- Assumes nothing.
use Rattle.planned.proofs.refused.Goals as goal

pub returns : goal.returns
returns c = rw c.zero.ensures
