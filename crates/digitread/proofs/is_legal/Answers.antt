-- `digitread::is_legal` meets its contract: the test of a byte by its two cases.
-- Assumes nothing.
use mathlib.Core.Path.{sym}
use borrow.Author.Tests.{le-leb, lt-leb}
use Rattle.digits.proofs.Digits.{legal_to_nine, legal_past_nine}
use Rattle.digitread.proofs.is_legal.Goals as goal

pub returns-then-b-le57 : goal.returns-then-b-le57
returns-then-b-le57 c = sym (legal_to_nine _ c.if-b-le57.true)

pub returns-then-b-ge65 : goal.returns-then-b-ge65
returns-then-b-ge65 c = rw (legal_past_nine _ c.if-b-le57.false, le-leb _ _ c.if-b-ge65.true)

pub returns-else-b-ge65 : goal.returns-else-b-ge65
returns-else-b-ge65 c = rw (legal_past_nine _ c.if-b-le57.false, lt-leb _ _ c.if-b-ge65.false)
