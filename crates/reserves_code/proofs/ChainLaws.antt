-- The sum of the reserves below a slot is the ring's ticks, and the number of the others that of the whole processors.
-- Assumes nothing.
use Rattle.std.proofs.Common.{◌≡◌, ℕ, ◌+◌, List, [], ◌∷◌, Bool, true, false, sym, ap, ◌∙◌, arith}
use Rattle.std.specs.List.{sum, filter, count_by}
use Rattle.std.proofs.lemmas.List.Sums.{sum_by-cons}
use Rattle.std.proofs.lemmas.Bool.Decides.{nat_tests}
use lib.Dec.{ltb, leb}
use mathlib.Core.Bool.{cond}
use Rattle.reserves.specs.Reserves.{ring_ticks, wholes}
use Rattle.reserves.proofs.Starts.{ring_nil, ring_cons, wholes_nil, wholes_cons}

-- one that is picked adds itself
picked : (b : Bool) (x : ℕ) (xs : List ℕ) → sum (cond b (x ∷ xs) xs) ≡ cond b x 0 + sum xs
picked true x xs = sum_by-cons (λ (y : ℕ). y) x xs
picked false x xs = omega arith

module _ (S : ℕ) where
  pub ticks_chain : (xs : List ℕ) → sum (filter (λ (R : ℕ). ltb R S) xs) ≡ ring_ticks S xs
  ticks_chain [] = sym (ring_nil S)
  ticks_chain (R ∷ Rs) =
      picked (ltb R S) R (filter (λ (R : ℕ). ltb R S) Rs) ∙ ap (λ (n : ℕ). cond (ltb R S) R 0 + n) (ticks_chain Rs) ∙ sym (ring_cons S R Rs)

  term : (R : ℕ) → cond (leb S R) 1 0 ≡ cond {A = ℕ} (ltb R S) 0 1
  term R = grind (arith, nat_tests)

  pub wholes_chain : (xs : List ℕ) → count_by (λ (R : ℕ). leb S R) xs ≡ wholes S xs
  wholes_chain [] = sym (wholes_nil S)
  wholes_chain (R ∷ Rs) =
      sum_by-cons (λ (x : ℕ). cond (leb S x) 1 0) R Rs ∙ ap (λ (n : ℕ). cond (leb S R) 1 0 + n) (wholes_chain Rs) ∙ ap (λ (k : ℕ). k + wholes S Rs) (term R) ∙ sym (wholes_cons S R Rs)
