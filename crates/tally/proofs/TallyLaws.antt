-- Laws of the count: it stays right name by name, it counts every name, and no entry is above the number of names.
-- Assumes nothing.
use Rattle.std.specs.Prelude.{Err, None, Ok, Option, Some}
use Prim.Native.Nat.{ℕ, zero, suc, ◌+◌, ◌≤◌, ◌<◌}
use mathlib.Core.Path.{◌≡◌, refl, sym, ◌∙◌, ap}
use mathlib.Core.List.{List, [], ◌∷◌, ◌++◌}
use native.Mathlib.Omega.{arith}
use lib.ListN.{length, get_or, set, length-set}
use Rattle.refusals.specs.Refused.{number_of}
use Rattle.refusals.specs.declared.Refusal.{Refusal}
use Rattle.refusals.proofs.NumberLaws.{number_row}
use Rattle.refusals.specs.Refused.{Outcome}
use Rattle.tally.specs.declared.Tally.{Tally}
use Rattle.tally.specs.Tally.{numbers, zero_tally, among_accepted, under, counted_of, counted_all, sum, Adds}

-- one more at a place adds one to the sum
sum_more : (ns : List ℕ) (i : ℕ) → i < length ns → sum (set ns i (get_or ns i 0 + 1)) ≡ sum ns + 1
unfolding sum
sum_more [] i h = absurd (omega arith)
sum_more (n ∷ ns) zero h = omega arith
sum_more (n ∷ ns) (suc i) h = omega (arith, sum_more ns i (omega arith))

-- an entry is at most the sum
entry_sum : (ns : List ℕ) (i : ℕ) → get_or ns i 0 ≤ sum ns
unfolding sum
entry_sum [] i = omega arith
entry_sum (n ∷ ns) zero = omega arith
entry_sum (n ∷ ns) (suc i) = omega (arith, entry_sum ns i)

pub zero_adds : Adds zero_tally
unfolding sum
zero_adds = record { room = refl; adds = refl }

accepted_adds : (t : Tally) → Adds t → Adds (among_accepted t)
accepted_adds t so = record { room = so.room; adds = omega (arith, so.adds) }

under_adds : (t : Tally) (number : ℕ) → number < numbers → Adds t → Adds (under t number)
under_adds t number h so =
    record {
      room = length-set t.refused number _ ∙ so.room;
      adds = omega (arith, so.adds, sum_more t.refused number (omega (arith, so.room)));
    }

pub counted_adds : (t : Tally) (a : Option Outcome) → Adds t → Adds (counted_of t a)
counted_adds t None so = under_adds t 0 (omega arith) so
counted_adds t (Some (Ok _)) so = accepted_adds t so
counted_adds t (Some (Err r)) so = under_adds t (number_of r) (omega (arith, number_row r)) so

pub all_adds : (t : Tally) (answers : List (Option Outcome)) → Adds t → Adds (counted_all t answers)
unfolding counted_all
all_adds t [] so = so
all_adds t (a ∷ rest) so = all_adds (counted_of t a) rest (counted_adds t a so)

-- what one name more comes to, by its answer
module _ (t : Tally) {a : Option Outcome} where
  pub counted_unopened : a ≡ None → under t 0 ≡ counted_of t a
  counted_unopened e = ap (counted_of t) (sym e)

  module _ {outcome : Outcome} (e : a ≡ Some outcome) where
    pub counted_accepted : outcome ≡ Ok tt → among_accepted t ≡ counted_of t a
    counted_accepted f = ap (counted_of t) (sym (e ∙ ap Some f))

    pub counted_refused : {r : Refusal} → outcome ≡ Err r → under t (number_of r) ≡ counted_of t a
    counted_refused f = ap (counted_of t) (sym (e ∙ ap Some f))

-- each answer is one name more
pub counted_names : (t : Tally) (a : Option Outcome) → (counted_of t a).names ≡ t.names + 1
counted_names t None = refl
counted_names t (Some (Ok _)) = refl
counted_names t (Some (Err r)) = refl

pub all_names : (t : Tally) (answers : List (Option Outcome)) → (counted_all t answers).names ≡ t.names + length answers
unfolding counted_all
all_names t [] = omega arith
all_names t (a ∷ rest) = all_names (counted_of t a) rest ∙ omega (arith, counted_names t a)

-- answers counted in two parts
pub all_append : (t : Tally) (first rest : List (Option Outcome)) → counted_all t (first ++ rest) ≡ counted_all (counted_all t first) rest
unfolding counted_all
all_append t [] rest = refl
all_append t (a ∷ first) rest = all_append (counted_of t a) first rest

-- no entry of a right count is above the number of names
pub accepted_most : {t : Tally} → Adds t → t.accepted ≤ t.names
accepted_most so = omega (arith, so.adds)

pub refused_most : {t : Tally} → Adds t → (number : ℕ) → get_or t.refused number 0 ≤ t.names
refused_most {t} so number = omega (arith, so.adds, entry_sum t.refused number)
