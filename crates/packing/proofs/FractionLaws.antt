-- The order of fractions by products: a/A < b/B where a·B < b·A.
-- Assumes nothing.
use Prim.Native.Nat.{ℕ, ◌*◌, ◌≤◌, ◌<◌}
use native.Mathlib.Omega.{arith}
use native.Mathlib.Nat.{mul-le-mul_right, mul-lt-mul_of_pos_right, le_of_mul-le-mul_right, lt_of_mul-lt-mul_right}

-- a/A, b/B and c/C, of periods that are not 0
module _ (a A b B c C : ℕ) where
  -- at most and at most
  pub at_most : 1 ≤ B → a * B ≤ b * A → b * C ≤ c * B → a * C ≤ c * A
  at_most some p q =
      let first : a * B * C ≤ b * A * C = mul-le-mul_right C p in
      let then : b * C * A ≤ c * B * A = mul-le-mul_right A q in
      let both : a * C * B ≤ c * A * B = omega arith in
      le_of_mul-le-mul_right both some

  -- below and at most
  pub below_most : 1 ≤ C → a * B < b * A → b * C ≤ c * B → a * C < c * A
  below_most some p q =
      let first : a * B * C < b * A * C = mul-lt-mul_of_pos_right p some in
      let then : b * C * A ≤ c * B * A = mul-le-mul_right A q in
      let both : a * C * B < c * A * B = omega arith in
      lt_of_mul-lt-mul_right B both

  -- at most and below
  pub most_below : 1 ≤ A → a * B ≤ b * A → b * C < c * B → a * C < c * A
  most_below some p q =
      let first : a * B * C ≤ b * A * C = mul-le-mul_right C p in
      let then : b * C * A < c * B * A = mul-lt-mul_of_pos_right q some in
      let both : a * C * B < c * A * B = omega arith in
      lt_of_mul-lt-mul_right B both
