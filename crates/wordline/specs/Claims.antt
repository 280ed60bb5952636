-- What is promised of lines: a buffer as long as the longest has room for each.
-- The proofs stand under the same names in proofs/Claims.
use Rattle.std.specs.Prelude.{ℕ, ◌≤◌, List, ◌≡◌, length, Ok}
use Rattle.digits.specs.Stored.{stored}
use Rattle.refusals.specs.Refused.{Written}
use Rattle.wordline.specs.Lined.{longest_line, Lined}

-- a buffer of the longest line's bytes is never too short: the line stands at its start
abbrev pub RoomSuffices : Type 0
RoomSuffices =
    (buffer line after : List ℕ) (answer : Written) → Lined buffer line answer after → longest_line ≤ length buffer
    → (answer ≡ Ok (length line)) × (after ≡ stored buffer 0 line)
