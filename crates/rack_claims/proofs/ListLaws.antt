-- What is told of a file's switch list: given, refused for room, or refused as the file is; and what each leaves.
-- Assumes nothing.
use Rattle.std.specs.Prelude.{Err, Ok}
use Prim.Native.Nat.{ℕ, ◌+◌, ◌*◌, ◌≤◌, ◌<◌}
use mathlib.Core.Path.{◌≡◌, refl, sym, ap, ◌∙◌}
use mathlib.Core.List.{List, ◌++◌}
use mathlib.Core.Bool.{or-true}
use mathlib.Core.Logic.{◌⊎◌, inl, inr}
use native.Mathlib.Nat.{zero-add}
use native.Mathlib.Omega.{arith}
use borrow.Author.Tests.{lt-ltb, le-ltb}
use lib.Dec.{ltb}
use lib.ListN.{length, drop}
use Rattle.laws.proofs.Orders.{le_or_lt}
use Rattle.digits.specs.Stored.{stored}
use Rattle.frames.specs.Table.{widths_of}
use Rattle.refusals.specs.declared.Refusal.{Refusal}
use Rattle.refusals.specs.declared.Refusal.TheVariants.{Room}
use Rattle.refusals.specs.Refused.{Outcome}
use Rattle.refusals.specs.Refused.{number_of, place_of}
use Rattle.taskplan.specs.File.{filed_of}
use Rattle.planfile_claims.proofs.Claims.{places_fit}
use Rattle.filed_claims.specs.Claims.{FileAccepted}
use Rattle.switch_claims.proofs.Claims.{filed_other}
use Rattle.told.specs.Told.{status_of, leaves_numbers}
use Rattle.refusals.proofs.NumberLaws.{number_row}
use Rattle.rack.specs.Rack.{list_text, list_numbers, list_told, leaves_text, list_leaves}
use Rattle.rack_claims.specs.Claims.{list_status, GivesList, RefusesList, HasRoom, TooShort}

-- what is stored at the start leaves what is behind it
stored_front : (b text : List ℕ) → stored b 0 text ≡ text ++ drop (length text) b
unfolding stored
stored_front b text = ap (λ (n : ℕ). text ++ drop n b) (zero-add (length text))

-- a file's own refusal has neither the status of a list nor that of ROOM
pub own_status : (text : List ℕ) (r : Refusal) → (filed_of text).outcome ≡ Err r → (1 ≤ number_of r * 256 + place_of r) × (number_of r * 256 + place_of r ≡ 12 * 256 → ⊥)
unfolding widths_of
own_status text r e =
    (omega (arith, (number_row r).0), λ (same : number_of r * 256 + place_of r ≡ 12 * 256). filed_other text r e (omega (arith, same, places_fit text r e)))

module _ (tasks out answer : List ℕ) where
  told_given : FileAccepted tasks → HasRoom tasks out answer → list_told tasks out answer ≡ Ok tt
  unfolding list_told
  told_given ok room = rw (ok, le-ltb (length answer) 1 room.0, le-ltb (length out) (length (list_text tasks)) room.1)

  told_short : FileAccepted tasks → TooShort tasks out answer → list_told tasks out answer ≡ Err Room
  unfolding list_told
  told_short ok (inl none) = rw (ok, lt-ltb (length answer) 1 (omega (arith, none)))
  told_short ok (inr few) = rw (ok, lt-ltb (length out) (length (list_text tasks)) few, or-true (ltb (length answer) 1))

  told_own : (r : Refusal) → (filed_of tasks).outcome ≡ Err r → list_told tasks out answer ≡ Err r
  unfolding list_told
  told_own r e = rw e

  gives : list_told tasks out answer ≡ Ok tt → GivesList tasks out answer
  unfolding list_leaves list_numbers
  gives d =
      record {
        status = ap status_of d;
        text = ap (λ (o : Outcome). leaves_text o (list_text tasks) out) d ∙ stored_front out (list_text tasks);
        number = ap (λ (o : Outcome). leaves_numbers o (list_numbers tasks) answer) d ∙ stored_front answer (list_numbers tasks);
      }

  refuses : (r : Refusal) → list_told tasks out answer ≡ Err r → RefusesList tasks out answer (number_of r * 256 + place_of r)
  unfolding list_leaves
  refuses r d =
      record {
        status = ap status_of d;
        text = ap (λ (o : Outcome). leaves_text o (list_text tasks) out) d;
        number = ap (λ (o : Outcome). leaves_numbers o (list_numbers tasks) answer) d;
      }

  pub list_given : FileAccepted tasks → HasRoom tasks out answer → GivesList tasks out answer
  list_given ok room = gives (told_given ok room)

  pub list_short : FileAccepted tasks → TooShort tasks out answer → RefusesList tasks out answer (12 * 256)
  list_short ok short = refuses Room (told_short ok short)

  pub list_own : (r : Refusal) → (filed_of tasks).outcome ≡ Err r → RefusesList tasks out answer (number_of r * 256 + place_of r)
  list_own r e = refuses r (told_own r e)

  -- there is room, or there is not
  room_or_short : HasRoom tasks out answer ⊎ TooShort tasks out answer
  room_or_short = with_place (le_or_lt 1 (length answer)) (le_or_lt (length (list_text tasks)) (length out))
    where
      with_place : (1 ≤ length answer) ⊎ (length answer < 1) → (length (list_text tasks) ≤ length out) ⊎ (length out < length (list_text tasks)) →
          HasRoom tasks out answer ⊎ TooShort tasks out answer
      with_place (inl some) (inl fits) = inl (some, fits)
      with_place (inl some) (inr few) = inr (inr few)
      with_place (inr none) fits = inr (inl (omega arith))

  -- the three that are told of
  by_room : {P : Type 0} → FileAccepted tasks → (HasRoom tasks out answer → P) → (TooShort tasks out answer → P) → HasRoom tasks out answer ⊎ TooShort tasks out answer → P
  by_room ok given short (inl room) = given room
  by_room ok given short (inr few) = short few

  by_outcome : {P : Type 0} → (FileAccepted tasks → HasRoom tasks out answer → P) → (FileAccepted tasks → TooShort tasks out answer → P) →
      ((r : Refusal) → (filed_of tasks).outcome ≡ Err r → P) → (o : Outcome) → (filed_of tasks).outcome ≡ o → P
  by_outcome given short own (Ok _) e = by_room e (given e) (short e) room_or_short
  by_outcome given short own (Err r) e = own r e

  pub by_status : {P : Type 0} → (FileAccepted tasks → HasRoom tasks out answer → list_status tasks out answer ≡ 0 → P) →
      (FileAccepted tasks → TooShort tasks out answer → list_status tasks out answer ≡ 12 * 256 → P) →
      (1 ≤ list_status tasks out answer → (list_status tasks out answer ≡ 12 * 256 → ⊥) → P) → P
  by_status given short own =
      by_outcome
      (λ ok room. given ok room (list_given ok room).status)
      (λ ok few. short ok few (list_short ok few).status)
      (λ r e. own (omega (arith, (list_own r e).status, (own_status tasks r e).0)) (λ same. (own_status tasks r e).1 (sym (list_own r e).status ∙ same)))
      (filed_of tasks).outcome refl
