-- The library's test of a list is the search's.
use Rattle.std.proofs.Common.{◌≡◌, ℕ, List, [], ◌∷◌, Bool, ◌||◌, ◌∙◌, refl, ap}
use Rattle.std.specs.List.{list_any}
use Rattle.tasks.specs.Search.{some}
use Rattle.listedline_code.proofs.holds_id.Goals as goal

any_some : (p : ℕ → Bool) (xs : List ℕ) → list_any p xs ≡ some p xs
unfolding some
any_some p [] = refl
any_some p (x ∷ xs) = ap (λ b. p x || b) (any_some p xs)

pub returns : goal.returns
returns c = c.contains.ensures.value ∙ any_some _ c.args.ids.now
