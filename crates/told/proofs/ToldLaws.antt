-- Laws of answers told in numbers: numbers that have room or not.
-- Assumes nothing.
use Rattle.std.specs.Prelude.{Err, Ok}
use Prim.Native.Nat.{ℕ, ◌≤◌, ◌<◌}
use mathlib.Core.List.{List}
use mathlib.Core.Path.{◌≡◌, refl, sym, ◌∙◌, ap, subst}
use borrow.Author.Tests.{lt-ltb, le-ltb}
use lib.ListN.{length}
use Rattle.digits.specs.Stored.{stored}
use Rattle.refusals.specs.declared.Refusal.{Refusal}
use Rattle.refusals.specs.declared.Refusal.TheVariants.{Room}
use Rattle.refusals.specs.Refused.{Outcome}
use Rattle.told.specs.Told.{status_of, told_of, leaves_numbers}

-- what an answer holds and its status, by name
abbrev pub Told : Outcome → (numbers answer : List ℕ) (status : ℕ) (left : List ℕ) → Type 0
Told o numbers answer status left = (status ≡ status_of (told_of o numbers answer)) × (left ≡ leaves_numbers (told_of o numbers answer) numbers answer)

module _ (numbers answer : List ℕ) where
  no_room : length answer < length numbers → told_of (Ok tt) numbers answer ≡ Err Room
  unfolding told_of
  no_room h = rw (lt-ltb (length answer) (length numbers) h)

  has_room : length numbers ≤ length answer → told_of (Ok tt) numbers answer ≡ Ok tt
  unfolding told_of
  has_room h = rw (le-ltb (length answer) (length numbers) h)

  -- an outcome, its status and what it leaves
  told_as : (o q : Outcome) {status : ℕ} {left : List ℕ} → told_of o numbers answer ≡ q → status ≡ status_of q → left ≡ leaves_numbers q numbers answer → Told o numbers answer status left
  told_as o q e s l = (s ∙ sym (ap status_of e), l ∙ sym (ap (λ (p : Outcome). leaves_numbers p numbers answer) e))

  -- too few places: ROOM, and nothing stored
  pub told_room : {status : ℕ} → length answer < length numbers → status ≡ status_of (Err Room) → Told (Ok tt) numbers answer status answer
  told_room h s = told_as (Ok tt) (Err Room) (no_room h) s refl

  -- the numbers have room, and are stored
  pub told_stored : {left : List ℕ} → length numbers ≤ length answer → left ≡ stored answer 0 numbers → Told (Ok tt) numbers answer 0 left
  told_stored h l = told_as (Ok tt) (Ok tt) (has_room h) refl l

  -- a refused question is handed on, and nothing is stored
  pub told_refused : (r : Refusal) {status : ℕ} → status ≡ status_of (Err r) → Told (Err r) numbers answer status answer
  unfolding told_of
  told_refused r s = (s, refl)

-- an outcome p, known to be o
pub told_of_lem : (numbers answer : List ℕ) {p o : Outcome} {status : ℕ} {left : List ℕ} → p ≡ o → Told o numbers answer status left → Told p numbers answer status left
told_of_lem numbers answer {status = status} {left = left} f t = subst (λ (q : Outcome). Told q numbers answer status left) (sym f) t

-- numbers known to be others
pub told_numbers : (o : Outcome) (answer : List ℕ) {numbers others : List ℕ} {status : ℕ} {left : List ℕ} → numbers ≡ others → Told o numbers answer status left → Told o others answer status left
told_numbers o answer {status = status} {left = left} e t = subst (λ (ns : List ℕ). Told o ns answer status left) e t

-- an answer a, known to be b, with its outcome and its numbers
pub told_by : {A : Type 0} (outcome : A → Outcome) (numbers : A → List ℕ) (answer : List ℕ) {status : ℕ} {left : List ℕ} {a b : A} {o : Outcome}
    → a ≡ b → outcome a ≡ o → Told o (numbers a) answer status left → Told (outcome b) (numbers b) answer status left
told_by {A} outcome numbers answer {status} {left} {a} e f t =
    subst (λ (x : A). Told (outcome x) (numbers x) answer status left) e (subst (λ (q : Outcome). Told q (numbers a) answer status left) (sym f) t)
