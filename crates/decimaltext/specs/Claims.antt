-- What is promised of numbers as text: each is read back, has at most 20 digits and no zero in front.
-- The proofs stand under the same names in proofs/Claims.
use Rattle.std.specs.Prelude.{ℕ, ◌^◌, ◌≤◌, ◌<◌, ◌≡◌, length, get_or, Some}
use Rattle.decimals.specs.Decimal.{decimal_of}
use Rattle.decimaltext.specs.Text.{decimal_text}

-- what is written is read back
abbrev pub WrittenRead : Type 0
WrittenRead = (n : ℕ) → n < 2 ^ 64 → decimal_of (decimal_text n) ≡ Some n

-- a number of 64 bits has 1 to 20 digits
abbrev pub AtMostTwenty : Type 0
AtMostTwenty = (n : ℕ) → n < 2 ^ 64 → (1 ≤ length (decimal_text n)) × (length (decimal_text n) ≤ 20)

-- the first digit of a number is no zero, but for 0 itself
abbrev pub NoZeroInFront : Type 0
NoZeroInFront = (n : ℕ) → 0 < n → 48 < get_or (decimal_text n) 0 0
