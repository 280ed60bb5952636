-- The mark of a whole processor.
-- Document 01, "Lines of hexadecimal" (RULES 5).
use Rattle.std.specs.Prelude.{ℕ, ◌-◌, ◌^◌, List, replicate}

-- the mark FFFFFFFF, the ring start of a server on a whole processor: its digits, and the number that they are
abbrev pub mark_width : ℕ
mark_width = 8

unfoldable pub mark_of : List ℕ
mark_of = replicate mark_width 70

abbrev pub mark_number : ℕ
mark_number = 16 ^ mark_width - 1
