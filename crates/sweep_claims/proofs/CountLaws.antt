-- Laws of counts by answers: how many are accepted, and how many meet each number.
-- Assumes nothing.
use Rattle.std.specs.Prelude.{Err, None, Ok, Option, Some}
use Prim.Native.Nat.{ℕ, zero, suc, ◌+◌, ◌<◌}
use mathlib.Core.Path.{◌≡◌, refl, sym, ◌∙◌, ap}
use mathlib.Core.Bool.{Bool, true, false, cond}
use mathlib.Core.List.{List, [], ◌∷◌, map}
use native.Mathlib.Omega.{arith}
use lib.Dec.{eqb}
use lib.ListN.{length, get_or, set, replicate}
use lib.Seq.{get_or-set_same, get_or-set_other}
use borrow.Author.Tests.{eqb-true, eqb-false}
use Rattle.refusals.specs.Refused.{number_of, Outcome}
use Rattle.refusals.proofs.NumberLaws.{number_row}
use Rattle.tally.specs.declared.Tally.{Tally}
use Rattle.tally.specs.Tally.{numbers, counted_of, counted_all, sum, Adds}
use Rattle.tally.proofs.TallyLaws.{counted_adds}
use Rattle.tallytext.specs.Text.{numbers_told}
use Rattle.sweep_claims.specs.Claims.{how_many, accepts, meets}

-- one more at a place, seen from any place
one_more : (xs : List ℕ) (at n : ℕ) → at < length xs → get_or (set xs at (get_or xs at 0 + 1)) n 0 ≡ get_or xs n 0 + cond (eqb n at) 1 0
one_more xs at n h = by_test (eqb n at) refl
  where
    by_test : (t : Bool) → eqb n at ≡ t → get_or (set xs at (get_or xs at 0 + 1)) n 0 ≡ get_or xs n 0 + cond t 1 0
    by_test true e = let same : n ≡ at = eqb-true n at e in rw same (get_or-set_same xs at (get_or xs at 0 + 1) 0 h)
    by_test false e = get_or-set_other xs at n (get_or xs at 0 + 1) 0 (eqb-false n at e) ∙ sym (omega arith)

-- a name more, by its answer
counted_accepted : (t : Tally) (a : Option Outcome) → (counted_of t a).accepted ≡ t.accepted + cond (accepts a) 1 0
counted_accepted t None = omega arith
counted_accepted t (Some (Ok _)) = refl
counted_accepted t (Some (Err r)) = omega arith

counted_refused : (t : Tally) (a : Option Outcome) → Adds t → (n : ℕ) → get_or (counted_of t a).refused n 0 ≡ get_or t.refused n 0 + cond (meets n a) 1 0
counted_refused t None so n = one_more t.refused 0 n (omega (arith, so.room))
counted_refused t (Some (Ok _)) so n = omega arith
counted_refused t (Some (Err r)) so n = one_more t.refused (number_of r) n (omega (arith, so.room, number_row r))

-- and all of them
pub all_accepted : (t : Tally) (answers : List (Option Outcome)) → (counted_all t answers).accepted ≡ t.accepted + how_many accepts answers
unfolding counted_all how_many
all_accepted t [] = omega arith
all_accepted t (a ∷ answers) = omega (arith, all_accepted (counted_of t a) answers, counted_accepted t a)

pub all_refused : (t : Tally) (answers : List (Option Outcome)) → Adds t → (n : ℕ) → get_or (counted_all t answers).refused n 0 ≡ get_or t.refused n 0 + how_many (meets n) answers
unfolding counted_all how_many
all_refused t [] so n = omega arith
all_refused t (a ∷ answers) so n = omega (arith, all_refused (counted_of t a) answers (counted_adds t a so) n, counted_refused t a so n)

-- among zeros there is nothing else
pub zeros_at : (k n : ℕ) → ◌≡◌ {A = ℕ} (get_or (replicate k 0) n 0) 0
zeros_at zero n = refl
zeros_at (suc k) zero = refl
zeros_at (suc k) (suc n) = zeros_at k n

-- a sum, entry by entry
unfoldable sum_to : (ℕ → ℕ) → ℕ → ℕ
sum_to f zero = 0
sum_to f (suc n) = f 0 + sum_to (λ (i : ℕ). f (suc i)) n

sum_entries : (xs : List ℕ) → sum xs ≡ sum_to (λ (i : ℕ). get_or xs i 0) (length xs)
unfolding sum sum_to
sum_entries [] = refl
sum_entries (x ∷ xs) = ap (λ (n : ℕ). x + n) (sum_entries xs)

-- the numbers told are all but 11 and 12
pub sum_told : (xs : List ℕ) → length xs ≡ numbers → get_or xs 11 0 ≡ 0 → get_or xs 12 0 ≡ 0 → sum (map (λ (n : ℕ). get_or xs n 0) numbers_told) ≡ sum xs
unfolding sum sum_to
sum_told xs room eleven twelve = omega (arith, sum_entries xs ∙ ap (sum_to (λ (i : ℕ). get_or xs i 0)) room)
