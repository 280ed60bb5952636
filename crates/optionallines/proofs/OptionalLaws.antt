-- Laws of the lines with one figure, 05 and 06, and of the 07 lines.
-- Assumes nothing.
use Rattle.std.specs.Prelude.{None, Option, Some}
use Prim.Native.Nat.{ℕ, ◌+◌, ◌≤◌}
use mathlib.Core.Path.{◌≡◌, refl, sym, ◌∙◌, ap}
use mathlib.Core.List.{List, [], ◌∷◌}
use native.Mathlib.Omega.{arith}
use lib.ListN.{length}
use Rattle.frames.specs.Table.{widths_of, fields_in, length_of}
use Rattle.framewrite.specs.Line.{line_of}
use Rattle.digits.specs.Stored.{stored}
use Rattle.frames.specs.declared.table.Frame.{Frame}
use Rattle.framewrite.proofs.LineLaws.{line_length}
use Rattle.digits.proofs.Stored.{stored_nil}
use Rattle.tasks.specs.declared.set.Interrupt.{Interrupt}
use Rattle.tasks.specs.Values.{interrupt_values}
use Rattle.optionallines.specs.Lines.{optional_line}

module _ (frame : Frame) where
  -- an optional line: nothing where the set has none, else the line of its figure
  pub optional_none : {figure : Option ℕ} → figure ≡ None → optional_line frame figure ≡ []
  unfolding optional_line
  optional_none e = ap (optional_line frame) e

  pub optional_given : {figure : Option ℕ} {given : ℕ} → figure ≡ Some given → optional_line frame figure ≡ line_of frame (given ∷ [])
  unfolding optional_line
  optional_given e = ap (optional_line frame) e

  -- its bytes: those of the table's row where it is there, and in any case no more
  pub optional_bytes : {figure : Option ℕ} {given : ℕ} → figure ≡ Some given → length (optional_line frame figure) ≡ length_of frame + 1
  optional_bytes {given = given} e = ap length (optional_given e) ∙ line_length frame (given ∷ [])

  pub optional_most : (figure : Option ℕ) → length (optional_line frame figure) ≤ length_of frame + 1
  optional_most None = omega (arith, ap length (optional_none {figure = None} refl))
  optional_most (Some given) = omega (arith, optional_bytes {figure = Some given} refl)

  -- a line where there is none changes nothing
  pub optional_unchanged : (b : List ℕ) (at : ℕ) {figure : Option ℕ} → figure ≡ None → b ≡ stored b at (optional_line frame figure)
  optional_unchanged b at e = sym (ap (stored b at) (optional_none e) ∙ stored_nil b at)

-- an interrupt has as many figures as its line has fields
pub interrupt_sized : (i : Interrupt) → length (interrupt_values i) ≡ fields_in Frame.Interrupt
unfolding widths_of
interrupt_sized i = refl
