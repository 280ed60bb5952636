-- `breaks_tight` meets its contract: the two tests are the definition's, in order.
-- Assumes nothing.
use borrow.Author.Tests.{le-leb, lt-leb}
use Rattle.loads.specs.Charge.{charged_in}
use Rattle.tightrows.specs.Rows.{tight_row}
use Rattle.tightrows_code.proofs.breaks_tight.Goals as goal

pub returns-then-task-jitter : goal.returns-then-task-jitter
unfolding tight_row
returns-then-task-jitter c = rw (le-leb _ _ c.if-task-jitter.true)

pub returns : goal.returns
unfolding tight_row charged_in
returns c =
    rw (lt-leb _ _ c.if-task-jitter.false, c.charged_deadline-due.ensures, c.charged_cost-cost.ensures, c.cache_cost.ensures)
