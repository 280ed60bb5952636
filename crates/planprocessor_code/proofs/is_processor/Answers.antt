-- `is_processor` meets its contract: the tests are the definition's.
-- Assumes nothing.
use borrow.Author.Tests.{le-leb, lt-leb}
use Rattle.planprocessor.specs.Standing.{is_processor}
use Rattle.planprocessor_code.proofs.is_processor.Goals as goal

pub returns-then-before_first : goal.returns-then-before_first
unfolding is_processor
returns-then-before_first c = rw (lt-leb _ _ c.if-before_first.true)

pub returns : goal.returns
unfolding is_processor
returns c = rw (le-leb _ _ c.if-before_first.false)
