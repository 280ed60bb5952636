-- The figures of several lines, as the writer of lines takes them.
use Rattle.std.specs.Prelude.{ℕ, List, replicate}
use Rattle.digits.specs.Stored.{stored}
use Rattle.framelines.specs.Lines.{joined}

-- the figures of n lines, one line behind the other, at the start of so many numbers; the rest are zeros
unfoldable pub filled : (size : ℕ) (figures : ℕ → List ℕ) (n : ℕ) → List ℕ
filled size figures n = stored (replicate size 0) 0 (joined figures n)
