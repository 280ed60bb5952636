-- What is left of a list: some have gone, and each that is left stands to what it was in some way.
-- Assumes nothing.
use mathlib.Core.List.{List, [], ◌∷◌, ◌++◌}
use Rattle.demand.specs.Load.{Every}
use Rattle.easing.specs.Eased.{Left, none, gone, kept}

-- what follows for each that is left from what held of it
pub left_every : {A : Type 0} {R : A → A → Type 0} (P Q : A → Type 0) → ((x y : A) → R x y → P x → Q y) →
    {xs ys : List A} → Left R xs ys → Every P xs → Every Q ys
left_every P Q h none e = tt
left_every P Q h (gone l) e = left_every P Q h l e.1
left_every P Q h (kept {x} {y} r l) e = (h x y r e.0, left_every P Q h l e.1)

module _ {A : Type 0} (R : A → A → Type 0) (same : (x : A) → R x x) where
  -- nothing has gone
  pub left_same : (xs : List A) → Left R xs xs
  left_same [] = none
  left_same (x ∷ xs) = kept (same x) (left_same xs)

  -- one has gone
  pub left_without : (before : List A) (x : A) (after : List A) → Left R (before ++ (x ∷ after)) (before ++ after)
  left_without [] x after = gone (left_same after)
  left_without (y ∷ before) x after = kept (same y) (left_without before x after)

  -- one is another
  pub left_with : (before : List A) {x y : A} (after : List A) → R x y → Left R (before ++ (x ∷ after)) (before ++ (y ∷ after))
  left_with [] after r = kept r (left_same after)
  left_with (z ∷ before) after r = kept (same z) (left_with before after r)
