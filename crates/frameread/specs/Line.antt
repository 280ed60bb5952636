-- A line read: when the text from a line's start holds a frame's line, which frame's, and its fields.
-- Document 01, "Lines of hexadecimal" (RULES 5) and row 1 of the refusals (RULES 6.1).
use Rattle.std.specs.Prelude.{ℕ, List, [], ◌∷◌, Bool, false, cond, ◌&&◌, ◌||◌, length, take, drop, eqb, None, Option, Some}
use Rattle.laws.specs.Same.{same}
use Rattle.digits.specs.Digit.{all_legal}
use Rattle.digits.specs.Number.{number}
use Rattle.frames.specs.declared.table.Frame.{Frame}
use Rattle.frames.specs.Table.{LF, all_frames, kind_of, width_of, field_start, length_of}

-- the bytes of the first line, up to its LF or to the end of the text
unfoldable pub line : List ℕ → List ℕ
line [] = []
line (b ∷ bs) = cond (eqb b LF) [] (b ∷ line bs)

-- what follows the first line and its LF
unfoldable pub after : List ℕ → List ℕ
after [] = []
after (b ∷ bs) = cond (eqb b LF) bs (after bs)

-- whether the first line has its LF
unfoldable pub closed : List ℕ → Bool
closed [] = false
closed (b ∷ bs) = eqb b LF || closed bs

-- the first line of the text is of this kind, at its exact length, in legal digits, and has its LF
unfoldable pub formed : Frame → List ℕ → Bool
formed frame text =
    closed text &&
    (eqb (length (line text)) (length_of frame) &&
    (same (take 2 (line text)) (kind_of frame) && all_legal (line text)))

-- the first of these frames whose line the text starts with
unfoldable pub first_formed : List Frame → List ℕ → Option Frame
first_formed [] text = None
first_formed (f ∷ fs) text = cond (formed f text) (Some f) (first_formed fs text)

-- the frame whose line the text starts with
unfoldable pub kind_at : List ℕ → Option Frame
kind_at text = first_formed all_frames text

-- the value of a field of the first line
unfoldable pub field_of : Frame → ℕ → List ℕ → ℕ
field_of frame field text = number (take (width_of frame field) (drop (field_start frame field) (line text)))
