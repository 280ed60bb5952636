-- Laws of lists of numbers that are the same: they are equal.
-- Assumes nothing.
use Prim.Native.Nat.{ℕ}
use mathlib.Core.Path.{◌≡◌, refl, ap₂}
use mathlib.Core.Bool.{true}
use mathlib.Core.List.{List, [], ◌∷◌}
use lib.Dec.{eqb}
use borrow.Author.Tests.{eqb-true, eq-eqb}
use Rattle.laws.specs.Same.{same}
use Rattle.laws.proofs.Tests.{and_both, and_left, and_right}

pub same_equal : (xs ys : List ℕ) → same xs ys ≡ true → xs ≡ ys
unfolding same
same_equal [] [] p = refl
same_equal [] (y ∷ ys) p = cc
same_equal (x ∷ xs) [] p = cc
same_equal (x ∷ xs) (y ∷ ys) p =
    ap₂ ◌∷◌ (eqb-true x y (and_left (eqb x y) (same xs ys) p)) (same_equal xs ys (and_right (eqb x y) (same xs ys) p))

pub equal_same : (xs : List ℕ) → same xs xs ≡ true
unfolding same
equal_same [] = refl
equal_same (x ∷ xs) = and_both (eq-eqb x x refl) (equal_same xs)
