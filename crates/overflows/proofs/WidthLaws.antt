-- Laws of the widths of a frame's row, and of values too large for their widths as pairs.
-- Assumes nothing.
use Prim.Native.Nat.{ℕ, ◌≤◌}
use mathlib.Core.Path.{◌≡◌, refl, ◌∙◌, ap}
use mathlib.Core.Bool.{Bool, ◌||◌}
use mathlib.Core.List.{List, [], ◌∷◌, ◌++◌}
use native.Mathlib.Omega.{arith}
use lib.ListN.{take, replicate}
use lib.Seq.{take-take, take-append_seam}
use Rattle.std.specs.List.{list_any, zip}
use Rattle.digits.specs.Number.{too_large}
use Rattle.frames.specs.declared.table.Frame.{Frame}
use Rattle.frames.specs.declared.table.Row.{Row}
use Rattle.frames.specs.Table.{widths_of, fields_in, most_fields, row_of}
use Rattle.frames.proofs.Tables.{fields_most}
use Rattle.framesizes.specs.Overflow.{some_too_large}

-- the widths of a frame's row are the frame's, and no more than the most
own_widths : (frame : Frame) → take (row_of frame).fields (row_of frame).widths ≡ widths_of frame
unfolding row_of
own_widths frame =
    take-take (fields_in frame) most_fields (widths_of frame ++ replicate most_fields 0) (fields_most frame)
    ∙ take-append_seam (widths_of frame) (replicate most_fields 0)

own_most : (frame : Frame) → (row_of frame).fields ≤ most_fields
unfolding row_of
own_most frame = fields_most frame

own_fields : (frame : Frame) → (row_of frame).fields ≡ fields_in frame
unfolding row_of
own_fields frame = refl

module _ (frame : Frame) {row : Row} (e : row ≡ row_of frame) where
  pub row_fields : row.fields ≡ fields_in frame
  row_fields = ap (λ (r : Row). r.fields) e ∙ own_fields frame

  pub widths_are : take row.fields row.widths ≡ widths_of frame
  widths_are = ap (λ (r : Row). take r.fields r.widths) e ∙ own_widths frame

  pub widths_most : row.fields ≤ most_fields
  widths_most = omega (arith, ap (λ (r : Row). r.fields) e, own_most frame)

-- one of the values is too large where one of the pairs is
pub some_pair : (ws vs : List ℕ) → list_any (λ (p : ℕ × ℕ). too_large p.0 p.1) (zip ws vs) ≡ some_too_large ws vs
unfolding some_too_large
some_pair [] vs = refl
some_pair (w ∷ ws) [] = refl
some_pair (w ∷ ws) (v ∷ vs) = ap (λ (t : Bool). too_large w v || t) (some_pair ws vs)
