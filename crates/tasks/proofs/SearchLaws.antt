-- A search from the left for what passes a test: one invariant, and what it comes to where something is found and where nothing is.
-- Assumes nothing.
use Prim.Native.Nat.{ℕ, zero, suc, ◌+◌, ◌≤◌, ◌<◌}
use native.Mathlib.Omega.{arith}
use native.Mathlib.Decide.{ℕ_discrete}
use mathlib.Core.List.{List, [], ◌∷◌}
use mathlib.Core.Bool.{Bool, true, false, or-true}
use mathlib.Core.Path.{◌≡◌, refl, sym, subst}
use lib.ListN.{length, take, get_or}
use lib.Seq.{get_or-take, length-take-le}
use Rattle.tasks.specs.Search.{some, first_task}
use Rattle.tasks.proofs.FirstLaws.{Stops, stops_first, none_first}

-- of the first n of a list, none before place i passes the test
pub record Passed {A : Type 0} (p : A → Bool) (z : A) (xs : List A) (n i : ℕ) : Type 0 where
  pub fits : n ≤ length xs
  pub within : i ≤ n
  pub earlier : (j : ℕ) → j < i → p (get_or xs j z) ≡ false

module _ {A : Type 0} (p : A → Bool) (z : A) where
  -- one of a list passes
  some_here : (xs : List A) (i : ℕ) → i < length xs → p (get_or xs i z) ≡ true → some p xs ≡ true
  unfolding some
  some_here [] i lt e = absurd (omega arith)
  some_here (x ∷ xs) zero lt e = rw e
  some_here (x ∷ xs) (suc i) lt e = rw (some_here xs i (omega arith) e) (or-true (p x))

  -- none of a list passes
  pub some_nowhere : (xs : List A) → ((j : ℕ) → j < length xs → p (get_or xs j z) ≡ false) → some p xs ≡ false
  unfolding some
  some_nowhere [] f = refl
  some_nowhere (x ∷ xs) f = rw (f 0 (omega arith), some_nowhere xs (λ j lt. f (suc j) (omega arith)))

module _ {A : Type 0} {p : A → Bool} {z : A} where
  -- at the start none is passed
  pub passed_none : {xs : List A} {n : ℕ} → n ≤ length xs → Passed p z xs n 0
  passed_none fits = record { fits = fits; within = omega arith; earlier = λ j lt. absurd (omega arith) }

  module _ {xs : List A} {n i : ℕ} (passed : Passed p z xs n i) where
    size : length (take n xs) ≡ n
    size = length-take-le n xs passed.fits

    part : (j : ℕ) → j < n → get_or (take n xs) j z ≡ get_or xs j z
    part j lt = get_or-take n xs j z lt

    -- one that does not pass is passed
    pub passed_next : i < n → p (get_or xs i z) ≡ false → Passed p z xs n (i + 1)
    passed_next lt e =
        record {
          fits = passed.fits;
          within = omega arith;
          earlier = λ j below. elim (ℕ_discrete j i) [
            | yes same ↦ subst (λ (k : ℕ). p (get_or xs k z) ≡ false) (sym same) e
            | no other ↦ passed.earlier j (omega (arith, other))
          ];
        }

    -- one that passes is the first
    pub found_some : i < n → p (get_or xs i z) ≡ true → some p (take n xs) ≡ true
    found_some lt e = some_here p z (take n xs) i (omega (arith, size)) (rw (part i lt) e)

    pub found_first : i < n → p (get_or xs i z) ≡ true → first_task p (take n xs) ≡ i + 1
    found_first lt e =
        let stops : Stops p z (take n xs) i = record { within = omega (arith, size); holds = rw (part i lt) e; earlier = λ j below. rw (part j (omega arith)) (passed.earlier j below) } in
        omega (arith, stops_first p z 1 i (take n xs) stops)

    nowhere : n ≤ i → (j : ℕ) → j < length (take n xs) → p (get_or (take n xs) j z) ≡ false
    nowhere over j lt = rw (part j (omega (arith, size))) (passed.earlier j (omega (arith, size)))

    -- where all are passed there is none
    pub all_some : n ≤ i → some p (take n xs) ≡ false
    all_some over = some_nowhere p z (take n xs) (nowhere over)

    pub all_first : n ≤ i → first_task p (take n xs) ≡ 0
    all_first over = none_first p z 1 (take n xs) (nowhere over)
