-- What is promised of frames: the line lengths that the table gives, that no two kinds are alike, and that reading and writing a line undo one another.
-- Document 01, "Lines of hexadecimal" (RULES 5).
use Rattle.std.specs.Prelude.{ℕ, ◌≡◌, true, false, List, [], ◌∷◌, ◌++◌, map, length}
use Rattle.frames.specs.declared.table.Frame.{Frame}
use Rattle.frames.specs.Table.{all_frames, kind_of, fields_in, length_of}
use Rattle.frameread.specs.Line.{after, formed}
use Rattle.framewrite.specs.Line.{line_of}
use Rattle.framesizes.specs.Overflow.{line_overflows}
use Rattle.frames_claims.specs.Values.{fields_of}

-- the digits of a line of each kind, in the table's order
abbrev pub LineLengths : Type 0
LineLengths = map length_of all_frames ≡ 30 ∷ 22 ∷ 26 ∷ 6 ∷ 4 ∷ 26 ∷ 22 ∷ 20 ∷ 6 ∷ 12 ∷ 6 ∷ 14 ∷ 10 ∷ 12 ∷ []

-- no two frames have one kind
abbrev pub KindsDiffer : Type 0
KindsDiffer = (f g : Frame) → kind_of f ≡ kind_of g → f ≡ g

-- a text starts with a line of one frame only
abbrev pub OneFrame : Type 0
OneFrame = (f g : Frame) (text : List ℕ) → formed f text ≡ true → formed g text ≡ true → f ≡ g

-- a written line is formed, whatever its values and whatever follows
abbrev pub WrittenFormed : Type 0
WrittenFormed = (frame : Frame) (values rest : List ℕ) → formed frame (line_of frame values ++ rest) ≡ true

-- values that fit their fields are read back from the line written of them
abbrev pub WrittenRead : Type 0
WrittenRead =
    (frame : Frame) (values rest : List ℕ) → length values ≡ fields_in frame → line_overflows frame values ≡ false
    → fields_of frame (line_of frame values ++ rest) ≡ values

-- a formed line, written of the values read from it, has its bytes again
abbrev pub ReadWritten : Type 0
ReadWritten = (frame : Frame) (text : List ℕ) → formed frame text ≡ true → line_of frame (fields_of frame text) ++ after text ≡ text
