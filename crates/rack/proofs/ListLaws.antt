-- The switch list told: what the list of a file answers as a status, and what it leaves of the lent memory.
-- Assumes nothing.
use Rattle.std.specs.Prelude.{Err, Ok}
use Prim.Native.Nat.{ℕ, ◌≤◌}
use mathlib.Core.Path.{◌≡◌, refl, sym, ap, ◌∙◌}
use mathlib.Core.List.{List, [], ◌∷◌}
use mathlib.Core.Bool.{Bool, true, false, cond}
use native.Mathlib.Omega.{arith}
use borrow.Author.Tests.{lt-ltb, le-ltb}
use lib.Dec.{ltb}
use lib.ListN.{length, set}
use Rattle.laws.proofs.Tests.{clash}
use Rattle.digits.specs.Stored.{stored}
use Rattle.digits.proofs.Stored.{set_stored}
use Rattle.refusals.specs.declared.Refusal.{Refusal}
use Rattle.refusals.specs.declared.Refusal.TheVariants.{Room}
use Rattle.refusals.specs.Refused.{Outcome}
use Rattle.refusals.specs.Refused.{Written}
use Rattle.refusals.specs.First.{first_of, when}
use Rattle.refusals.specs.Leaves.{leaves}
use Rattle.planfit.specs.Fit.{fitted}
use Rattle.taskplan.specs.File.{unless, filed_of}
use Rattle.switchfile.specs.OfFile.{listed}
use Rattle.told.specs.Told.{status_of, leaves_numbers}
use Rattle.rack.specs.Rack.{list_text, list_numbers, list_told, leaves_text, list_leaves}

-- the outcome of a write
abbrev outcome_of : Written → Outcome
outcome_of (Ok n) = Ok tt
outcome_of (Err r) = Err r

-- a file's list, by its outcome and whether the lent bytes are too short for n
abbrev by_tests : Outcome → (short : Bool) (n : ℕ) → Written
by_tests o short n = unless Err o (cond short (Err Room) (Ok n))

first_tests : (o : Outcome) (short : Bool) (n : ℕ) → outcome_of (by_tests o short n) ≡ first_of o (when short Room)
first_tests (Ok _) true n = refl
first_tests (Ok _) false n = refl
first_tests (Err r) short n = refl

bytes_tests : (o : Outcome) (short : Bool) (n k : ℕ) → by_tests o short n ≡ Ok k → k ≡ n
bytes_tests (Ok _) true n k e = clash (cc)
bytes_tests (Ok _) false n k e = cc
bytes_tests (Err r) short n k e = clash (cc)

-- what the three promises say together
abbrev pub Listed : (tasks out answer : List ℕ) (status : ℕ) (out' answer' : List ℕ) → Type 0
Listed tasks out answer status out' answer' =
    (status ≡ status_of (list_told tasks out answer))
    × ((out' ≡ list_leaves tasks out answer)
    × (answer' ≡ leaves_numbers (list_told tasks out answer) (list_numbers tasks) answer))

module _ (tasks out answer : List ℕ) where
  -- an outcome, and what it leaves
  told_as : (o : Outcome) {status : ℕ} {out' answer' : List ℕ} → o ≡ list_told tasks out answer → status ≡ status_of o →
      out' ≡ leaves_text o (list_text tasks) out → answer' ≡ leaves_numbers o (list_numbers tasks) answer → Listed tasks out answer status out' answer'
  unfolding list_leaves
  told_as o e s l n = (
    s ∙ ap status_of e,
    (
      l ∙ ap (λ (q : Outcome). leaves_text q (list_text tasks) out) e,
      n ∙ ap (λ (q : Outcome). leaves_numbers q (list_numbers tasks) answer) e,
    ),
  )

  -- no refusal stores anything
  refused_as : (o : Outcome) (r : Refusal) {status : ℕ} → o ≡ Err r → o ≡ list_told tasks out answer → status ≡ status_of o → Listed tasks out answer status out answer
  refused_as o r e f s = told_as (Err r) (sym e ∙ f) (s ∙ ap status_of e) refl refl

  -- no place for the number
  no_place : length answer ≡ 0 → first_of (filed_of tasks).outcome (Err Room) ≡ list_told tasks out answer
  unfolding list_told
  no_place h = rw (lt-ltb (length answer) 1 (omega (arith, h)))

  first_refuses : (o : Outcome) → (r : Refusal) × (first_of o (Err Room) ≡ Err r)
  first_refuses (Ok _) = (Room, refl)
  first_refuses (Err r) = (r, refl)

  pub listed_nowhere : {status : ℕ} → length answer ≡ 0 → status ≡ status_of (first_of (filed_of tasks).outcome (Err Room)) → Listed tasks out answer status out answer
  listed_nowhere h s =
      let f = first_refuses (filed_of tasks).outcome in
      refused_as (first_of (filed_of tasks).outcome (Err Room)) f.0 f.1 (no_place h) s

  -- with a place: as the list is written
  short : Bool
  short = ltb (length out) (length (list_text tasks))

  listed_is : listed tasks out ≡ by_tests (filed_of tasks).outcome short (length (list_text tasks))
  unfolding listed fitted short
  listed_is = refl

  placed_told : 1 ≤ length answer → outcome_of (listed tasks out) ≡ list_told tasks out answer
  unfolding list_told short
  placed_told h = ap outcome_of listed_is ∙ first_tests (filed_of tasks).outcome short (length (list_text tasks)) ∙ rw (le-ltb (length answer) 1 h)

  pub listed_bytes : {out' : List ℕ} (n : ℕ) → 1 ≤ length answer → listed tasks out ≡ Ok n → out' ≡ leaves (listed tasks out) out (list_text tasks) →
      Listed tasks out answer 0 out' (set answer 0 n)
  unfolding list_numbers
  listed_bytes n h e l =
      let whole : n ≡ length (list_text tasks) = bytes_tests (filed_of tasks).outcome short (length (list_text tasks)) n (sym listed_is ∙ e) in
      told_as (Ok tt) (sym (ap outcome_of e) ∙ placed_told h) refl
      (l ∙ ap (λ (w : Written). leaves w out (list_text tasks)) e)
      (set_stored answer 0 n (omega (arith, h)) ∙ ap (λ (k : ℕ). stored answer 0 (k ∷ [])) whole)

  pub listed_refused : {out' : List ℕ} {status : ℕ} (r : Refusal) → 1 ≤ length answer → listed tasks out ≡ Err r →
      out' ≡ leaves (listed tasks out) out (list_text tasks) → status ≡ status_of (Err r) → Listed tasks out answer status out' answer
  listed_refused r h e l s =
      told_as (Err r) (sym (ap outcome_of e) ∙ placed_told h) s (l ∙ ap (λ (w : Written). leaves w out (list_text tasks)) e) refl
