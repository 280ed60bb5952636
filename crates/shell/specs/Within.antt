-- What is said of a count of bytes that were read: it lies within the buffer.
-- Which bytes they are no contract can say of a file or a terminal, but of a reader that knows its bytes.
use Rattle.std.specs.Prelude.{ℕ, ◌≡◌, ◌≤◌, ◌<◌, List, Option, length, take, Result, Ok, Err}
use Rattle.std.specs.Io.KnownBytes.{Consumes, Keeps, IsAtEnd}

abbrev pub Within : {E : Type 0} → Result ℕ E → (room : ℕ) → Type 0
Within (Ok n) room = n ≤ room
Within (Err error) room = Unit {0}

-- What becomes of the bytes that are to come, where they are known: those that were read stand at the buffer's start, in order.
-- None are read only at the end, or with no room; a read that fails takes none.
abbrev pub Reads : {E : Type 0} → (before after : Option (List ℕ)) → Result ℕ E → (buf : List ℕ) → Type 0
Reads before after (Ok n) buf = Consumes before after (take n buf) × (n ≡ 0 → 0 < length buf → IsAtEnd after)
Reads before after (Err error) buf = Keeps before after

-- The same of several reads: fewer than there is room for are read only at the end. Where one fails, those before it took some.
abbrev pub ReadsAll : {E : Type 0} → (before after : Option (List ℕ)) → Result ℕ E → (buf : List ℕ) → Type 0
ReadsAll before after (Ok n) buf = Consumes before after (take n buf) × (n < length buf → IsAtEnd after)
ReadsAll before after (Err error) buf = (taken : List ℕ) × Consumes before after taken
