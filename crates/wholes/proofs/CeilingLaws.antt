-- The rounded quotient is the least that covers, and the only one.
-- Assumes nothing.
use Prim.Native.Nat.{ℕ, ◌+◌, ◌/◌, ◌%◌, ◌≤◌, ◌<◌}
use mathlib.Core.Path.{◌≡◌, refl}
use mathlib.Core.Bool.{Bool, true, false}
use native.Mathlib.Nat.{le_antisymm, add-mul, mod-lt, div-add-mod', pos_of_ne-zero, le-mul_of_pos_right, lt_of_mul-lt-mul_right, le_of_mul-le-mul_right}
use native.Mathlib.Omega.{arith}
use borrow.Author.Tests.{eqb-true, eqb-false}
use lib.Dec.{eqb}
use Rattle.wholes.specs.Ceiling.{Ceiling, left_over, ceiling_of}

module _ (a b : ℕ) (h : 1 ≤ b) where
  by_rest : (t : Bool) → eqb (a % b) 0 ≡ t → Ceiling a b (a / b + left_over t)
  by_rest true e = record {
    covers = omega (arith, div-add-mod' a b, eqb-true (a % b) 0 e, add-mul (a / b) 0 b);
    least = λ j l. le_of_mul-le-mul_right {k = b} (omega (arith, div-add-mod' a b, add-mul (a / b) 0 b)) h;
  }
  by_rest false e = record {
    covers = omega (arith, div-add-mod' a b, mod-lt a h, add-mul (a / b) 1 b);
    least = λ j l. go j (lt_of_mul-lt-mul_right b {m = a / b} {n = j} (omega (arith, div-add-mod' a b, pos_of_ne-zero (eqb-false (a % b) 0 e))));
  }
    where
      go : (j : ℕ) → a / b < j → a / b + 1 ≤ j
      go j l = omega arith

  -- `ceiling_of` is the least number of b's that hold a
  pub ceiling_least : Ceiling a b (ceiling_of a b)
  unfolding ceiling_of
  ceiling_least = by_rest (eqb (a % b) 0) refl

-- there is one such number
pub ceiling_unique : {a b k j : ℕ} → Ceiling a b k → Ceiling a b j → k ≡ j
ceiling_unique {a} {b} {k} {j} x y = le_antisymm (x.least j y.covers) (y.least k x.covers)

-- one more than a quotient with a remainder still fits where the number did
pub quotient_below : (a b : ℕ) → 1 ≤ b → (a % b ≡ 0 → ⊥) → a / b + 1 ≤ a
quotient_below a b h e =
    omega (arith, div-add-mod' a b, pos_of_ne-zero e, le-mul_of_pos_right (a / b) h)
