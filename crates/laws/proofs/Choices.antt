-- What a choice by a test comes to: its first value where the test passes, its second where it fails.
-- Assumes nothing.
use Prim.Native.Nat.{ℕ, ◌≤◌, ◌<◌}
use mathlib.Core.Path.{◌≡◌}
use mathlib.Core.Bool.{Bool, true, false, cond}
use borrow.Author.Tests.{le-leb, lt-leb, lt-ltb, le-ltb, eq-eqb, ne_eqb}
use lib.Dec.{leb, ltb, eqb}

-- by any test that passes
pub cond_true : {A : Type 0} {t : Bool} (x y : A) → t ≡ true → cond t x y ≡ x
cond_true x y e = rw e

-- by any test that fails
pub cond_false : {A : Type 0} {t : Bool} (x y : A) → t ≡ false → cond t x y ≡ y
cond_false x y e = rw e

-- and of two numbers by each order, and by their equation
pub cond_leb : {a b : ℕ} (x y : ℕ) → a ≤ b → cond (leb a b) x y ≡ x
cond_leb x y h = cond_true x y (le-leb _ _ h)

pub cond_leb_not : {a b : ℕ} (x y : ℕ) → b < a → cond (leb a b) x y ≡ y
cond_leb_not x y h = cond_false x y (lt-leb _ _ h)

pub cond_ltb : {a b : ℕ} (x y : ℕ) → a < b → cond (ltb a b) x y ≡ x
cond_ltb x y h = cond_true x y (lt-ltb _ _ h)

pub cond_ltb_not : {a b : ℕ} (x y : ℕ) → b ≤ a → cond (ltb a b) x y ≡ y
cond_ltb_not x y h = cond_false x y (le-ltb _ _ h)

pub cond_eqb : {a b : ℕ} (x y : ℕ) → a ≡ b → cond (eqb a b) x y ≡ x
cond_eqb x y h = cond_true x y (eq-eqb _ _ h)

pub cond_eqb_not : {a b : ℕ} (x y : ℕ) → (a ≡ b → ⊥) → cond (eqb a b) x y ≡ y
cond_eqb_not x y h = cond_false x y (ne_eqb _ _ h)
