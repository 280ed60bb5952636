-- The cases of an order, of an equation, and of a number by its slots.
-- Assumes nothing.
use Prim.Native.Nat.{ℕ, zero, suc, ◌+◌, ◌*◌, ◌/◌, ◌%◌, ◌≤◌, ◌<◌, zero-le, suc-le-suc}
use mathlib.Core.Path.{◌≡◌, subst}
use mathlib.Core.Logic.{◌⊎◌, inl, inr, ⊎_elim}
use native.Mathlib.Omega.{arith}
use native.Mathlib.Nat.{le_antisymm, div-add-mod', mod-lt}

-- one number is at most another, or above it
pub le_or_lt : (a b : ℕ) → (a ≤ b) ⊎ (b < a)
le_or_lt zero b = inl zero-le
le_or_lt (suc a) zero = inr (suc-le-suc zero-le)
le_or_lt (suc a) (suc b) = ⊎_elim (λ p. inl (suc-le-suc p)) (λ q. inr (suc-le-suc q)) (le_or_lt a b)

-- two numbers of which neither is below the other are equal
pub eq_by_cases : (a b : ℕ) → (a < b → ⊥) → (b < a → ⊥) → a ≡ b
eq_by_cases a b f g =
    ⊎_elim
    (λ (p : a ≤ b). ⊎_elim (λ (q : b ≤ a). le_antisymm p q) (λ (q : a < b). absurd (f q)) (le_or_lt b a))
    (λ (p : b < a). absurd (g p))
    (le_or_lt a b)

-- two numbers are equal, or they are not
pub eq_or_ne : (a b : ℕ) → (a ≡ b) ⊎ (a ≡ b → ⊥)
eq_or_ne a b =
    ⊎_elim
    (λ (p : a ≤ b). ⊎_elim (λ (q : b ≤ a). inl (le_antisymm p q)) (λ (q : a < b). inr (λ (e : a ≡ b). omega arith)) (le_or_lt b a))
    (λ (p : b < a). inr (λ (e : a ≡ b). omega arith))
    (le_or_lt a b)

-- what holds of k slots and x ticks holds of each length
pub by_slots : (P : ℕ → Type 0) (S : ℕ) → 1 ≤ S → ((k x : ℕ) → x < S → P (k * S + x)) → (t : ℕ) → P t
by_slots P S h f t = subst P (div-add-mod' t S) (f (t / S) (t % S) (mod-lt t h))
