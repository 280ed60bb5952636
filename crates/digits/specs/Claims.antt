-- What is promised of digits: a number written at a width and the digits of a number undo one another.
-- Document 01, "Lines of hexadecimal" (RULES 5).
use Rattle.std.specs.Prelude.{ℕ, ◌≡◌, true, false, List, length}
use Rattle.digits.specs.Digit.{all_legal}
use Rattle.digits.specs.Number.{number, hex, too_large}

-- a number that is not too large for its width is read back from its digits
abbrev pub WrittenRead : Type 0
WrittenRead = (width value : ℕ) → too_large width value ≡ false → number (hex width value) ≡ value

-- legal digits are the digits of the number that they stand for
abbrev pub ReadWritten : Type 0
ReadWritten = (digits : List ℕ) → all_legal digits ≡ true → hex (length digits) (number digits) ≡ digits
