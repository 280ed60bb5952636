-- Laws of tests, the Bools that definitions choose by. That a test beside `true` or `false` is the test, or that constant, the library says: and-true, and-false, or-true, or-false of mathlib.Core.Bool.
-- Assumes nothing.
use Prim.Native.Nat.{ℕ}
use mathlib.Core.Path.{◌≡◌, refl, sym}
use mathlib.Core.Bool.{Bool, true, false, ◌&&◌, ◌||◌}
use mathlib.Core.Logic.{◌⊎◌, inl, inr}
use native.Mathlib.Omega.{arith}

-- from what tells two constructors apart all follows
pub clash : {A : Type 0} → ◌≡◌ {A = ℕ} 0 1 → A
clash z = absurd (omega arith)

-- and so it does from true as false
pub true_false : {A : Type 0} → true ≡ false → A
true_false e = clash (cc)

-- the first of two tests that both pass passes
pub and_left : (a b : Bool) → (a && b) ≡ true → a ≡ true
and_left true b p = refl
and_left false b p = p

-- and the second
pub and_right : (a b : Bool) → (a && b) ≡ true → b ≡ true
and_right true b p = p
and_right false b p = cc

-- both of them
pub and_parts : (a b : Bool) → (a && b) ≡ true → (a ≡ true) × (b ≡ true)
and_parts a b p = (and_left a b p, and_right a b p)

-- two tests that pass pass together
pub and_both : {a b : Bool} → a ≡ true → b ≡ true → (a && b) ≡ true
and_both p q = rw (p, q)

-- where one of two tests passes, it is the first or the second
pub or_either : (a b : Bool) → (a || b) ≡ true → (a ≡ true) ⊎ (b ≡ true)
or_either true b p = inl refl
or_either false b p = inr p

-- where neither of two tests passes, the first fails
pub or_left : (a b : Bool) → (a || b) ≡ false → a ≡ false
or_left true b p = p
or_left false b p = refl

-- and the second
pub or_right : (a b : Bool) → (a || b) ≡ false → b ≡ false
or_right true b p = cc
or_right false b p = p

-- two tests that fail fail together
pub or_neither : {a b : Bool} → a ≡ false → b ≡ false → (a || b) ≡ false
or_neither p q = rw (p, q)

-- two tests that pass together are one
pub same_test : (a b : Bool) → (a ≡ true → b ≡ true) → (b ≡ true → a ≡ true) → a ≡ b
same_test true b f g = sym (f refl)
same_test false true f g = g refl
same_test false false f g = refl

-- a test that cannot pass fails
pub never_true : (t : Bool) → (t ≡ true → ⊥) → t ≡ false
never_true true h = absurd (h refl)
never_true false h = refl
