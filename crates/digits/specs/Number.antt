-- A number and its digits in base 16, the highest digit first, at any width.
-- Document 01, "Lines of hexadecimal" (RULES 5): field widths in digits.
use Rattle.std.specs.Prelude.{ℕ, zero, suc, ◌+◌, ◌*◌, ◌/◌, ◌%◌, ◌^◌, List, [], ◌∷◌, ◌++◌, Bool, leb}
use Rattle.digits.specs.Digit.{value_of, digit_of}

unfoldable pub number_from : ℕ → List ℕ → ℕ
number_from high [] = high
number_from high (b ∷ bs) = number_from (high * 16 + value_of b) bs

-- the number that digits stand for
abbrev pub number : List ℕ → ℕ
number ds = number_from 0 ds

-- the digits of a number at a width
unfoldable pub hex : (width : ℕ) → ℕ → List ℕ
hex zero v = []
hex (suc w) v = hex w (v / 16) ++ (digit_of (v % 16) ∷ [])

-- whether a number has more digits than a width
abbrev pub too_large : (width : ℕ) → ℕ → Bool
too_large width v = leb (16 ^ width) v
