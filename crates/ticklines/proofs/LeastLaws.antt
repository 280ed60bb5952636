-- Laws of the least of several numbers: it is none above, and what is below all of them is below it.
-- Assumes nothing.
use Prim.Native.Nat.{ℕ, zero, suc, min, ◌≤◌}
use mathlib.Core.Path.{◌≡◌, refl}
use native.Mathlib.Decide.{dec_lt}
use native.Mathlib.Omega.{arith}
use Rattle.ticklines.specs.Walk.{least_of}

module _ (f : ℕ → ℕ) (most : ℕ) where
  pub least_none : least_of f most 0 ≡ most
  unfolding least_of
  least_none = refl

  pub least_next : (n : ℕ) → least_of f most (suc n) ≡ min (least_of f most n) (f (suc n))
  unfolding least_of
  least_next n = refl

  pub least_most : (n : ℕ) → least_of f most n ≤ most
  unfolding least_of
  least_most zero = omega arith
  least_most (suc n) = omega (arith, least_most n)

  -- it is at most each
  pub least_each : (n p : ℕ) → 1 ≤ p → p ≤ n → least_of f most n ≤ f p
  unfolding least_of
  least_each zero p l h = absurd (omega arith)
  least_each (suc n) p l h =
      elim (dec_lt p (suc n)) [
        | yes below ↦ omega (arith, least_each n p l (omega arith))
        | no past ↦ let e : p ≡ suc n = omega (arith, past, h) in rw e (omega arith)
      ]

  -- what is at most each is at most the least
  pub least_above : (k n : ℕ) → k ≤ most → ((p : ℕ) → 1 ≤ p → p ≤ n → k ≤ f p) → k ≤ least_of f most n
  unfolding least_of
  least_above k zero h each = h
  least_above k (suc n) h each = omega (arith, least_above k n h (λ p l m. each p l (omega arith)), each (suc n) (omega arith) (omega arith))
