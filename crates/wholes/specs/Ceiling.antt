-- A quotient rounded up. Document 01: "r = ceil(sum of their R / S)".
-- The meaning is a record, so that the way to compute it can be replaced.
use Rattle.std.specs.Prelude.{ℕ, ◌+◌, ◌*◌, ◌/◌, ◌%◌, ◌≤◌, Bool, true, false, eqb}

-- k is the least number with a ≤ k·b; `ceiling_of` is, for b ≥ 1.
pub record Ceiling (a b k : ℕ) : Type 0 where
  pub covers : a ≤ k * b
  pub least : (j : ℕ) → a ≤ j * b → k ≤ j

-- one more where the division leaves something
abbrev pub left_over : Bool → ℕ
left_over true = 0
left_over false = 1

unfoldable pub ceiling_of : (a b : ℕ) → ℕ
ceiling_of a b = a / b + left_over (eqb (a % b) 0)
