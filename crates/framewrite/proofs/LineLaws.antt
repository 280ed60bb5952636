-- Laws of lines written: their length, that a frame's row gives its line, and that a kind, the fields and an LF stored one behind the
-- other are the line.
-- Assumes nothing.
use Prim.Native.Nat.{ℕ, ◌+◌, ◌≤◌}
use mathlib.Core.Path.{◌≡◌, refl, ◌∙◌, ap}
use mathlib.Core.List.{List, [], ◌∷◌, ◌++◌}
use native.Mathlib.Omega.{arith}
use lib.ListN.{length, set, replicate, length-append}
use lib.Seq.{take-take, take-append_seam}
use Rattle.digits.specs.Stored.{stored}
use Rattle.digits.proofs.Stored.{stored_length, set_stored, stored_three}
use Rattle.frames.specs.declared.table.Frame.{Frame}
use Rattle.frames.specs.declared.table.Row.{Row}
use Rattle.frames.specs.Table.{kind_of, widths_of, fields_in, most_fields, length_of, sum, row_of, LF}
use Rattle.framewrite.specs.Line.{fields, row_widths, line_by, line_of}
use Rattle.frames.proofs.Tables.{kind_length, kinds_differ, fields_most}
use Rattle.framewrite.proofs.Fields.{fields_length}

-- the bytes of a line, its LF too
pub line_length : (frame : Frame) (values : List ℕ) → length (line_of frame values) ≡ length_of frame + 1
unfolding line_of
line_length frame values = simp length-append (omega (arith, kind_length frame, fields_length (widths_of frame) values))

-- the widths of a frame's row are the frame's
row_widths_lem : (frame : Frame) → row_widths (row_of frame) ≡ widths_of frame
unfolding row_of
row_widths_lem frame =
    take-take (fields_in frame) most_fields (widths_of frame ++ replicate most_fields 0) (fields_most frame)
    ∙ take-append_seam (widths_of frame) (replicate most_fields 0)

frame_line : (frame : Frame) (values : List ℕ) → line_by (row_of frame) values ≡ line_of frame values
unfolding line_by line_of row_of
frame_line frame values = ap (λ (ws : List ℕ). kind_of frame ++ (fields ws values ++ (LF ∷ []))) (row_widths_lem frame)

frame_fields : (frame : Frame) → (row_of frame).fields ≡ fields_in frame
unfolding row_of
frame_fields frame = refl

-- the row of a frame has its fields, its digits and its line
module _ (frame : Frame) {row : Row} (e : row ≡ row_of frame) where
  pub row_fields : row.fields ≡ fields_in frame
  row_fields = ap (λ (r : Row). r.fields) e ∙ frame_fields frame

  pub row_digits : 2 + sum (row_widths row) ≡ length_of frame
  row_digits = ap (λ (r : Row). 2 + sum (row_widths r)) e ∙ ap (λ (ws : List ℕ). 2 + sum ws) (row_widths_lem frame)

  pub row_line : (values : List ℕ) → line_by row values ≡ line_of frame values
  row_line values = ap (λ (r : Row). line_by r values) e ∙ frame_line frame values

-- frames of one row are one frame
pub row_one : (f g : Frame) → row_of f ≡ row_of g → f ≡ g
unfolding row_of
row_one f g e = kinds_differ f g (ap (λ (r : Row). r.kind) e)

-- a kind and the fields stored one behind the other, and an LF set behind them, are the line of a row
pub row_put : (b : List ℕ) (at : ℕ) (row : Row) (vs : List ℕ) (n : ℕ) {kinded filled : List ℕ} → length row.kind ≡ 2
    → n ≡ at + 2 + sum (row_widths row) → at + 2 + sum (row_widths row) + 1 ≤ length b
    → kinded ≡ stored b at row.kind → filled ≡ stored kinded (at + 2) (fields (row_widths row) vs)
    → set filled n LF ≡ stored b at (line_by row vs)
unfolding line_by
row_put b at row vs n {kinded} {filled} two en h k f =
    ap (λ (o : List ℕ). set o n LF) both
    ∙ set_stored _ n LF (omega (arith, en, digits, first, stored_length (stored b at row.kind) (at + 2) (fields (row_widths row) vs) (omega (arith, digits, first))))
    ∙ stored_three b at row.kind (fields (row_widths row) vs) (LF ∷ []) (at + 2) n
    (omega (arith, two))
    (omega (arith, two, digits, en))
    (omega (arith, two, digits))
  where
    digits : length (fields (row_widths row) vs) ≡ sum (row_widths row)
    digits = fields_length (row_widths row) vs

    first : length (stored b at row.kind) ≡ length b
    first = stored_length b at row.kind (omega (arith, two))

    both : filled ≡ stored (stored b at row.kind) (at + 2) (fields (row_widths row) vs)
    both = f ∙ ap (λ (o : List ℕ). stored o (at + 2) (fields (row_widths row) vs)) k
