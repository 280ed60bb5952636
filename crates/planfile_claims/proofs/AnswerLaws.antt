-- What writing a text of a plan answers, by two tests: whether the planner makes the plan, and whether the buffer is too short for its text.
-- Assumes nothing.
use Rattle.std.specs.Prelude.{Err, Ok}
use Prim.Native.Nat.{ℕ, ◌≤◌, ◌<◌}
use mathlib.Core.Path.{◌≡◌, refl, sym, ◌∙◌, ap}
use mathlib.Core.List.{List}
use mathlib.Core.Bool.{Bool, true, false, cond}
use mathlib.Core.Logic.{◌⊎◌, inl, inr}
use native.Mathlib.Omega.{arith}
use lib.Dec.{ltb}
use lib.ListN.{length}
use borrow.Author.Tests.{ltb-true, ltb-false}
use Rattle.laws.proofs.Tests.{clash}
use Rattle.refusals.specs.declared.Refusal.{Refusal}
use Rattle.refusals.specs.declared.Refusal.TheVariants.{Ask, Room}
use Rattle.refusals.specs.Refused.{Written}
use Rattle.planfit.specs.Fit.{fitted, write_of}
use Rattle.planfit.proofs.FitLaws.{fitted_room, fitted_bytes}
use Rattle.planfile_claims.specs.Claims.{RowsExactly}

-- what the writer answers, by whether the planner makes the plan and whether the buffer is too short for n bytes
abbrev by_tests : (made short : Bool) (n : ℕ) → Written
by_tests made short n = cond made (cond short (Err Room) (Ok n)) (Err Ask)

ask_only : (m t : Bool) (n : ℕ) → by_tests m t n ≡ Err Ask → m ≡ false
ask_only true true n e = clash (cc)
ask_only true false n e = clash (cc)
ask_only false t n e = refl

short_only : (m t : Bool) (n : ℕ) → by_tests m t n ≡ Err Room → (m ≡ true) × (t ≡ true)
short_only true true n e = (refl, refl)
short_only true false n e = clash (cc)
short_only false t n e = clash (cc)

bytes_only : (m t : Bool) (n k : ℕ) → by_tests m t n ≡ Ok k → (m ≡ true) × ((t ≡ false) × (k ≡ n))
bytes_only true true n k e = clash (cc)
bytes_only true false n k e = (refl, (refl, cc))
bytes_only false t n k e = clash (cc)

two_only : (m t : Bool) (n : ℕ) (r : Refusal) → by_tests m t n ≡ Err r → (r ≡ Ask) ⊎ (r ≡ Room)
two_only true true n r e = inr (cc)
two_only true false n r e = clash (cc)
two_only false t n r e = inl (cc)

module _ (made : Bool) (buffer text : List ℕ) where
  short : Bool
  short = ltb (length buffer) (length text)

  write_is : write_of made buffer text ≡ by_tests made short (length text)
  unfolding write_of fitted short
  write_is = refl

  -- each answer tells what holds
  ask_tells : write_of made buffer text ≡ Err Ask → made ≡ false
  ask_tells e = ask_only made short (length text) (sym write_is ∙ e)

  room_tells : write_of made buffer text ≡ Err Room → (made ≡ true) × (length buffer < length text)
  unfolding short
  room_tells e = let only = short_only made short (length text) (sym write_is ∙ e) in (only.0, ltb-true (length buffer) (length text) only.1)

  bytes_tell : (n : ℕ) → write_of made buffer text ≡ Ok n → (made ≡ true) × ((length text ≤ length buffer) × (n ≡ length text))
  unfolding short
  bytes_tell n e =
      let only = bytes_only made short (length text) n (sym write_is ∙ e) in
      (only.0, (ltb-false (length buffer) (length text) only.1.0, only.1.1))

  no_others : (r : Refusal) → write_of made buffer text ≡ Err r → (r ≡ Ask) ⊎ (r ≡ Room)
  no_others r e = two_only made short (length text) r (sym write_is ∙ e)

  -- and what holds gives the answer
  ask_given : made ≡ false → write_of made buffer text ≡ Err Ask
  unfolding write_of
  ask_given m = rw m

  room_given : made ≡ true → length buffer < length text → write_of made buffer text ≡ Err Room
  unfolding write_of
  room_given m h = rw m (fitted_room buffer text h)

  bytes_given : (n : ℕ) → made ≡ true → length text ≤ length buffer → n ≡ length text → write_of made buffer text ≡ Ok n
  unfolding write_of
  bytes_given n m h e = rw m (fitted_bytes buffer text h ∙ ap Ok (sym e))

  pub rows_exactly : RowsExactly made buffer text (write_of made buffer text)
  rows_exactly =
      record {
        ask = (ask_tells, ask_given);
        room = (
          λ e. let told = room_tells e in (told.0, omega (arith, told.1)),
          λ h. room_given h.0 (omega (arith, h.1)),
        );
        bytes = λ n. (
          λ e. let told = bytes_tell n e in (told.0, (omega (arith, told.1.0), omega (arith, told.1.1))),
          λ h. bytes_given n h.0 (omega (arith, h.1.0)) (omega (arith, h.1.1)),
        );
        others = no_others;
      }
