-- Laws of a text into a lent buffer: the answer and the buffer where it fits, and where it does not.
-- Assumes nothing.
use Rattle.std.specs.Prelude.{Err, Ok}
use Prim.Native.Nat.{ℕ, ◌≤◌, ◌<◌}
use mathlib.Core.Path.{◌≡◌, refl, sym, ◌∙◌, ap, subst}
use mathlib.Core.List.{List}
use mathlib.Core.Bool.{Bool, true, false}
use lib.ListN.{length}
use borrow.Author.Tests.{lt-ltb, le-ltb}
use Rattle.digits.specs.Stored.{stored}
use Rattle.refusals.specs.declared.Refusal.TheVariants.{Ask, Room}
use Rattle.refusals.specs.Refused.{Written}
use Rattle.refusals.specs.Leaves.{leaves}
use Rattle.planfit.specs.Fit.{fitted, write_of, Fits}

module _ (buffer text : List ℕ) where
  pub fitted_room : length buffer < length text → fitted buffer text ≡ Err Room
  unfolding fitted
  fitted_room h = rw (lt-ltb (length buffer) (length text) h)

  pub fitted_bytes : length text ≤ length buffer → fitted buffer text ≡ Ok (length text)
  unfolding fitted
  fitted_bytes h = rw (le-ltb (length buffer) (length text) h)

  -- an answer, and what it leaves of the buffer
  fits : (w : Written) (left : List ℕ) → fitted buffer text ≡ w → left ≡ leaves w buffer text → Fits buffer text w left
  fits w left e f = record { answered = sym e; holds = f ∙ sym (ap (λ (v : Written). leaves v buffer text) e) }

  -- the text does not fit, and nothing is stored
  pub no_room : length buffer < length text → Fits buffer text (Err Room) buffer
  no_room h = fits (Err Room) buffer (fitted_room h) refl

  -- the text fits, and is stored
  pub stored_whole : {left : List ℕ} (n : ℕ) → n ≡ length text → n ≤ length buffer → left ≡ stored buffer 0 text → Fits buffer text (Ok n) left
  stored_whole {left} n e h f = fits (Ok n) left (fitted_bytes (subst (λ (k : ℕ). k ≤ length buffer) e h) ∙ ap Ok (sym e)) f

-- a text by another name
pub fits_as : {buffer text other : List ℕ} {w : Written} {left : List ℕ} → text ≡ other → Fits buffer text w left → Fits buffer other w left
fits_as {buffer} {text} {other} {w} {left} e f = subst (λ (t : List ℕ). Fits buffer t w left) e f

-- a text of a plan that the planner makes is written as it fits, that of another is refused
module _ {made : Bool} (buffer text : List ℕ) where
  pub write_fits : {w : Written} {left : List ℕ} → made ≡ true → Fits buffer text w left →
      (w ≡ write_of made buffer text) × (left ≡ leaves (write_of made buffer text) buffer text)
  unfolding write_of
  write_fits m f = (rw m f.answered, rw m f.holds)

  pub write_asks : made ≡ false → (Err Ask ≡ write_of made buffer text) × (buffer ≡ leaves (write_of made buffer text) buffer text)
  unfolding write_of
  write_asks m = (rw m, rw m)
