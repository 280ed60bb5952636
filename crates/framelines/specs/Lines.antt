-- The text of several lines of a frame, one behind the other, and lists joined.
-- Document 01, "Lines of hexadecimal" (RULES 5).
use Rattle.std.specs.Prelude.{ℕ, zero, suc, List, [], ◌++◌, drop}
use Rattle.frames.specs.declared.table.Frame.{Frame}
use Rattle.frames.specs.Table.{fields_in}
use Rattle.framewrite.specs.Line.{line_of}

-- n lines of a frame, one behind the other, as their values stand
unfoldable pub lines_of : Frame → (values : List ℕ) (n : ℕ) → List ℕ
lines_of frame values zero = []
lines_of frame values (suc n) = line_of frame values ++ lines_of frame (drop (fields_in frame) values) n

-- what a function gives for 1 to n, one behind the other
unfoldable pub joined : (ℕ → List ℕ) → ℕ → List ℕ
joined f zero = []
joined f (suc n) = joined f n ++ f (suc n)
