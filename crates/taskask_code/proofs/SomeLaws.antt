-- The library's test of a list is the search's.
use Rattle.std.proofs.Common.{◌≡◌, List, [], ◌∷◌, Bool, ◌||◌, refl, ap}
use Rattle.std.specs.List.{list_any}
use Rattle.tasks.specs.Search.{some}

pub any_some : {A : Type 0} (p : A → Bool) (xs : List A) → list_any p xs ≡ some p xs
unfolding some
any_some p [] = refl
any_some p (x ∷ xs) = ap (λ b. p x || b) (any_some p xs)
