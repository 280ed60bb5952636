-- Two lists compared from left to right: the places passed are alike, so the rest decides.
-- Assumes nothing.
use Prim.Native.Nat.{ℕ, ◌+◌, ◌≤◌, ◌<◌}
use mathlib.Core.Path.{◌≡◌, refl, ap, ap₂, ◌∙◌}
use mathlib.Core.Bool.{Bool, true, false, ◌&&◌}
use mathlib.Core.List.{List, [], ◌∷◌, map}
use native.Mathlib.Numerals.{add-one}
use native.Mathlib.Omega.{arith}
use lib.ListN.{length, take, drop, get_or, drop_of_length-le}
use lib.Seq.{drop-cons, get_or-take, length-take-le}
use lib.Pointwise.{pointwise}
use Rattle.laws.proofs.Tests.{and_left, and_right, true_false}
use Rattle.planagree.specs.Agrees.{alike}

module _ {A : Type 0} (t : A → A → Bool) where
  -- lists that are alike by a test of equality are equal
  pub alike_equal : ((x y : A) → t x y ≡ true → x ≡ y) → (xs ys : List A) → alike t xs ys ≡ true → xs ≡ ys
  unfolding alike
  alike_equal f [] [] e = refl
  alike_equal f [] (y ∷ ys) e = true_false (cc)
  alike_equal f (x ∷ xs) [] e = true_false (cc)
  alike_equal f (x ∷ xs) (y ∷ ys) e =
      ap₂ ◌∷◌ (f x y (and_left (t x y) (alike t xs ys) e)) (alike_equal f xs ys (and_right (t x y) (alike t xs ys) e))

  -- each list is alike to itself by a test that every element passes with itself
  pub alike_self : ((x : A) → t x x ≡ true) → (xs : List A) → alike t xs xs ≡ true
  unfolding alike
  alike_self f [] = refl
  alike_self f (x ∷ xs) = rw (f x) (alike_self f xs)

-- by a test of something of each element: that of all elements is alike
pub alike_map : {A B : Type 0} (u : A → B) (t : B → B → Bool) (xs ys : List A) →
    alike (λ (x y : A). t (u x) (u y)) xs ys ≡ alike t (map u xs) (map u ys)
unfolding alike
alike_map u t [] [] = refl
alike_map u t [] (y ∷ ys) = refl
alike_map u t (x ∷ xs) [] = refl
alike_map u t (x ∷ xs) (y ∷ ys) = ap (λ (b : Bool). t (u x) (u y) && b) (alike_map u t xs ys)

-- the first n of two rows, compared up to place i
module _ {A : Type 0} (t : A → A → Bool) (d : A) (a b : List A) (n : ℕ) (a-there : n ≤ length a) (b_there : n ≤ length b) (i : ℕ) where
  -- the places before i are alike: the rest decides
  abbrev pub Rest : Type 0
  Rest = alike t (take n a) (take n b) ≡ alike t (drop i (take n a)) (drop i (take n b))

  opened : (xs : List A) → n ≤ length xs → i < n → drop i (take n xs) ≡ get_or xs i d ∷ drop (i + 1) (take n xs)
  opened xs h l =
      rw (add-one i, ← (get_or-take n xs i d l)) (drop-cons (take n xs) i d (omega (arith, length-take-le n xs h)))

  -- the two differ at place i
  pub front_apart : Rest → i < n → t (get_or a i d) (get_or b i d) ≡ false → alike t (take n a) (take n b) ≡ false
  unfolding alike
  front_apart e l f = e ∙ rw (opened a a-there l, opened b b_there l, f)

  -- they are alike there: the next place
  pub front_next : Rest → i < n → t (get_or a i d) (get_or b i d) ≡ true →
      alike t (take n a) (take n b) ≡ alike t (drop (i + 1) (take n a)) (drop (i + 1) (take n b))
  unfolding alike
  front_next e l f = e ∙ rw (opened a a-there l, opened b b_there l, f)

  -- no place is left
  pub front_end : Rest → n ≤ i → alike t (take n a) (take n b) ≡ true
  unfolding alike
  front_end e l =
      let al : length (take n a) ≤ i = omega (arith, length-take-le n a a-there) in
      let bl : length (take n b) ≤ i = omega (arith, length-take-le n b b_there) in
      e ∙ rw (drop_of_length-le (take n a) al, drop_of_length-le (take n b) bl)

-- the library's comparison of two lists, place by place, finds them alike
pub pointwise_alike : {A : Type 0} (t : A → A → Bool) (xs ys : List A) → pointwise t xs ys ≡ alike t xs ys
unfolding alike
pointwise_alike t [] [] = refl
pointwise_alike t [] (y ∷ ys) = refl
pointwise_alike t (x ∷ xs) [] = refl
pointwise_alike t (x ∷ xs) (y ∷ ys) = ap (λ (b : Bool). t x y && b) (pointwise_alike t xs ys)
