-- The library's first place of a list, one more of it, is the search's.
use Rattle.std.proofs.Common.{◌≡◌, ℕ, suc, ◌+◌, List, [], ◌∷◌, Bool, true, false, cond, not, nat_lt, length, Option, Some, None, refl, sym, subst, ◌∙◌, arith}
use Rattle.std.proofs.lemmas.Bool.Decides.{nat_tests}
use Rattle.std.specs.Option.{MatchOption}
use Rattle.std.specs.List.{position, position_or_len}
use Rattle.tasks.specs.Search.{first_from, first_task}

here : (k n : ℕ) → k ≡ cond (nat_lt 0 (suc n)) (k + 0) 0
here k n = grind (arith, nat_tests)

next : (k l n : ℕ) → cond (nat_lt l n) (suc k + l) 0 ≡ cond (nat_lt (1 + l) (suc n)) (k + (1 + l)) 0
next k l n = grind (arith, nat_tests)

mapped : (b : Bool) (l : ℕ) (o : Option ℕ) (r : ℕ) → o ≡ cond b (Some l) None → MatchOption o (r ≡ 0) (λ i. r ≡ i + 1) → r ≡ cond b (1 + l) 0
mapped true l o r e m =
    let at : r ≡ l + 1 = subst (λ (p : Option ℕ). MatchOption p (r ≡ 0) (λ i. r ≡ i + 1)) e m in
    omega arith
mapped false l o r e m = subst (λ (p : Option ℕ). MatchOption p (r ≡ 0) (λ i. r ≡ i + 1)) e m

module _ {A : Type 0} (p : A → Bool) where
  reached : (k : ℕ) (xs : List A) → first_from p k xs ≡ cond (nat_lt (position_or_len p xs) (length xs)) (k + position_or_len p xs) 0
  unfolding first_from
  reached k [] = refl
  reached k (x ∷ xs) =
      elim (p x) as (λ b. cond b k (first_from p (suc k) xs) ≡ cond (nat_lt (cond (not b) (1 + position_or_len p xs) 0) (suc (length xs))) (k + cond (not b) (1 + position_or_len p xs) 0) 0) [
        | true ↦ here k (length xs)
        | false ↦ reached (suc k) xs ∙ next k (position_or_len p xs) (length xs)
      ]

  pub first_position : (xs : List A) (o : Option ℕ) (r : ℕ) → o ≡ position p xs → MatchOption o (r ≡ 0) (λ i. r ≡ i + 1) → r ≡ first_task p xs
  first_position xs o r e m = mapped (nat_lt (position_or_len p xs) (length xs)) (position_or_len p xs) o r e m ∙ sym (reached 1 xs)
