-- When a line's values do not fit their fields.
-- Document 01, "Lines of hexadecimal" (RULES 5).
use Rattle.std.specs.Prelude.{ℕ, List, [], ◌∷◌, Bool, false, ◌||◌}
use Rattle.digits.specs.Number.{too_large}
use Rattle.frames.specs.declared.table.Frame.{Frame}
use Rattle.frames.specs.Table.{widths_of}

-- whether one of these values is too large for its width
unfoldable pub some_too_large : (widths values : List ℕ) → Bool
some_too_large [] vs = false
some_too_large (w ∷ ws) [] = false
some_too_large (w ∷ ws) (v ∷ vs) = too_large w v || some_too_large ws vs

-- whether a line's values hold one that is too large for its field
unfoldable pub line_overflows : Frame → (values : List ℕ) → Bool
line_overflows frame values = some_too_large (widths_of frame) values
