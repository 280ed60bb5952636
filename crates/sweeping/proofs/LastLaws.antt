-- Laws of the name that the list's end ends.
-- Assumes nothing.
use Rattle.refusals.specs.Refused.{Outcome}
use Rattle.std.specs.Prelude.{Option}
use Prim.Native.Nat.{ℕ, ◌-◌, ◌≤◌, ◌<◌}
use mathlib.Core.Path.{◌≡◌, refl, ◌∙◌, ap}
use mathlib.Core.List.{List, [], ◌∷◌}
use native.Mathlib.Omega.{arith}
use lib.ListN.{length, take}
use lib.Seq.{take_all}
use Rattle.names.specs.Parts.{last_name}
use Rattle.tally.specs.declared.Tally.{Tally}
use Rattle.tally.specs.Tally.{most_names, counted_of, counted_all}
use Rattle.sweepfile.specs.Answered.{AnsweredHeld}
use Rattle.sweeping.specs.declared.Sweep.{Sweep}
use Rattle.sweeping.specs.Sweeping.{Counts, Ends}

-- no name is counted where none is read
counts_none : (names : List (List ℕ)) (tally : Tally) → take (most_names - tally.names) names ≡ [] → Counts names tally tally
unfolding counted_all
counts_none names tally e = record { answers = []; each = rw e tt; tally = refl }

-- of no names none
pub counts_nothing : (tally : Tally) → Counts [] tally tally
counts_nothing tally = counts_none [] tally (take_all (most_names - tally.names) [] (omega arith))

none_taken : {A : Type 0} (n : ℕ) (xs : List A) → n ≡ 0 → take n xs ≡ []
none_taken n xs e = ap (λ (k : ℕ). take k xs) e

-- nor any, once as many names were counted as are read
pub counts_full : (names : List (List ℕ)) (tally : Tally) → most_names ≤ tally.names → Counts names tally tally
counts_full names tally full = counts_none names tally (none_taken (most_names - tally.names) names (omega arith))

last_empty : (begun : List ℕ) → length begun ≡ 0 → last_name begun ≡ []
last_empty [] e = refl
last_empty (b ∷ begun) e = absurd (omega arith)

last_some : (begun : List ℕ) → 1 ≤ length begun → last_name begun ≡ begun ∷ []
last_some [] h = absurd (omega arith)
last_some (b ∷ begun) h = refl

module _ {name : List ℕ} {sweep : Sweep} where
  -- no more names are read
  pub last_full : most_names ≤ sweep.tally.names → Ends name sweep sweep.tally
  last_full full begun h = counts_none (last_name begun) sweep.tally (none_taken (most_names - sweep.tally.names) (last_name begun) (omega arith))

  module _ (more : sweep.tally.names < most_names) where
    -- nothing is begun
    pub last_none : sweep.held ≡ 0 → Ends name sweep sweep.tally
    last_none none begun h =
        let empty : length begun ≡ 0 = omega (arith, (h more).count) in
        counts_none (last_name begun) sweep.tally (ap (take (most_names - sweep.tally.names)) (last_empty begun empty) ∙ take_all (most_names - sweep.tally.names) [] (omega arith))

    -- what is begun is a name
    pub last_counted : 1 ≤ sweep.held → {a : Option Outcome} → AnsweredHeld name sweep.held a → {tally : Tally} → tally ≡ counted_of sweep.tally a → Ends name sweep tally
    unfolding counted_all
    last_counted some {a} answered one begun h =
        let long : 1 ≤ length begun = omega (arith, (h more).count) in
        let all : take (most_names - sweep.tally.names) (last_name begun) ≡ begun ∷ [] =
        ap (take (most_names - sweep.tally.names)) (last_some begun long) ∙ take_all (most_names - sweep.tally.names) (begun ∷ []) (omega arith) in
        record { answers = a ∷ []; each = rw all (answered begun (h more), tt); tally = one }
