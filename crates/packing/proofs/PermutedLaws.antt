-- Lists that hold the same in another order, and what that order does not change.
-- Assumes nothing.
use Prim.Native.Nat.{suc}
use mathlib.Core.Path.{◌≡◌, refl, ap, subst, ◌∙◌}
use mathlib.Core.List.{List, [], ◌∷◌, ◌++◌, map}
use lib.ListN.{length}
use Rattle.demand.specs.Load.{Every}

-- the same elements in another order: step by step, two neighbours change places
pub data Permuted {A : Type 0} : List A → List A → Type 0 where
  none : Permuted [] []
  head : {x : A} {xs ys : List A} → Permuted xs ys → Permuted (x ∷ xs) (x ∷ ys)
  swap : {x y : A} {xs : List A} → Permuted (x ∷ y ∷ xs) (y ∷ x ∷ xs)
  onward : {xs ys zs : List A} → Permuted xs ys → Permuted ys zs → Permuted xs zs

module _ {A : Type 0} where
  -- a list is its own
  pub permuted_same : (xs : List A) → Permuted xs xs
  permuted_same [] = none
  permuted_same (x ∷ xs) = head (permuted_same xs)

  -- so is an equal list
  pub permuted_equal : {xs ys : List A} → xs ≡ ys → Permuted xs ys
  permuted_equal {xs} e = subst (Permuted xs) e (permuted_same xs)

  -- and back again
  pub permuted_back : {xs ys : List A} → Permuted xs ys → Permuted ys xs
  permuted_back none = none
  permuted_back (head p) = head (permuted_back p)
  permuted_back swap = swap
  permuted_back (onward p r) = onward (permuted_back r) (permuted_back p)

  -- there are as many
  pub permuted_length : {xs ys : List A} → Permuted xs ys → length xs ≡ length ys
  permuted_length none = refl
  permuted_length (head p) = ap suc (permuted_length p)
  permuted_length swap = refl
  permuted_length (onward p r) = permuted_length p ∙ permuted_length r

  -- what holds of each holds of each
  pub permuted_every : (P : A → Type 0) {xs ys : List A} → Permuted xs ys → Every P xs → Every P ys
  permuted_every P none e = tt
  permuted_every P (head p) e = (e.0, permuted_every P p e.1)
  permuted_every P swap e = (e.1.0, (e.0, e.1.1))
  permuted_every P (onward p r) e = permuted_every P r (permuted_every P p e)

  -- the head may stand behind all others
  pub permuted_last : (x : A) (xs : List A) → Permuted (x ∷ xs) (xs ++ (x ∷ []))
  permuted_last x [] = permuted_same (x ∷ [])
  permuted_last x (y ∷ xs) = onward swap (head (permuted_last x xs))

-- of each element something
pub permuted_map : {A B : Type 0} (f : A → B) {xs ys : List A} → Permuted xs ys → Permuted (map f xs) (map f ys)
permuted_map f none = none
permuted_map f (head p) = head (permuted_map f p)
permuted_map f swap = swap
permuted_map f (onward p r) = onward (permuted_map f p) (permuted_map f r)
