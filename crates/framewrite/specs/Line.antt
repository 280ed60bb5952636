-- The text of a frame's line, of the values of its fields.
-- Document 01, "Lines of hexadecimal" (RULES 5).
use Rattle.std.specs.Prelude.{ℕ, List, [], ◌∷◌, ◌++◌, take}
use Rattle.digits.specs.Number.{hex}
use Rattle.frames.specs.declared.table.Frame.{Frame}
use Rattle.frames.specs.declared.table.Row.{Row}
use Rattle.frames.specs.Table.{LF, kind_of, widths_of}

-- the digits of values at widths, one field after the other
unfoldable pub fields : (widths values : List ℕ) → List ℕ
fields [] vs = []
fields (w ∷ ws) [] = hex w 0 ++ fields ws []
fields (w ∷ ws) (v ∷ vs) = hex w v ++ fields ws vs

-- the line of a frame with these values, closed by its LF
unfoldable pub line_of : Frame → List ℕ → List ℕ
line_of frame values = kind_of frame ++ (fields (widths_of frame) values ++ (LF ∷ []))

-- the widths of the fields that a row of the table has
abbrev pub row_widths : Row → List ℕ
row_widths row = take row.fields row.widths

-- the line of a row of the table with these values, closed by its LF
unfoldable pub line_by : Row → (values : List ℕ) → List ℕ
line_by row values = row.kind ++ (fields (row_widths row) values ++ (LF ∷ []))
