-- The values of all fields of a line, in order.
-- Document 01, "Lines of hexadecimal" (RULES 5).
use Rattle.std.specs.Prelude.{ℕ, zero, suc, List, [], ◌∷◌}
use Rattle.frames.specs.declared.table.Frame.{Frame}
use Rattle.frames.specs.Table.{fields_in}
use Rattle.frameread.specs.Line.{field_of}

-- the values of n fields of the first line, from field k on
unfoldable pub fields_from : Frame → List ℕ → (k n : ℕ) → List ℕ
fields_from frame text k zero = []
fields_from frame text k (suc n) = field_of frame k text ∷ fields_from frame text (suc k) n

-- the values of the first line's fields
unfoldable pub fields_of : Frame → List ℕ → List ℕ
fields_of frame text = fields_from frame text 0 (fields_in frame)
