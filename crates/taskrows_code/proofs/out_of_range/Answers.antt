-- `out_of_range` meets its contract: each way out is told by the tests that led there.
use borrow.Author.Tests.{lt-leb, le-leb}
use Rattle.taskrows.proofs.Bools.{below_not_most}
use Rattle.taskrows_code.proofs.out_of_range.Goals as goal

pub returns-then-cost-lt1 : goal.returns-then-cost-lt1
returns-then-cost-lt1 c = simp (lt-leb _ _ c.if-cost-lt1.true)

pub returns-then-over : goal.returns-then-over
returns-then-over c = simp (le-leb _ _ c.if-cost-lt1.false, lt-leb _ _ c.if-over.true)

pub returns-then-period-deadline : goal.returns-then-period-deadline
returns-then-period-deadline c = simp (le-leb _ _ c.if-cost-lt1.false, le-leb _ _ c.if-over.false, lt-leb _ _ c.if-period-deadline.true)

pub returns : goal.returns
returns c =
    simp (le-leb _ _ c.if-cost-lt1.false, le-leb _ _ c.if-over.false, le-leb _ _ c.if-period-deadline.false)
    (below_not_most 1000000 c.args.period)
