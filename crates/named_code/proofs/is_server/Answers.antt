-- `is_server` meets its contract: the tests are the definition's.
-- Assumes nothing.
use borrow.Author.Tests.{le-leb, lt-leb}
use Rattle.named.specs.Named.{is_server}
use Rattle.named_code.proofs.is_server.Goals as goal

pub returns-then-before_first : goal.returns-then-before_first
unfolding is_server
returns-then-before_first c = rw (lt-leb _ _ c.if-before_first.true)

pub returns : goal.returns
unfolding is_server
returns c = rw (le-leb _ _ c.if-before_first.false)
