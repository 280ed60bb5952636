-- The table of frames: each kind with its field widths in digits, and the lengths that follow.
-- Document 01, "Lines of hexadecimal" (RULES 5.1); document 02, Req 01, 03, 04, 05, 07 and 08.
use Rattle.std.specs.Prelude.{ℕ, zero, suc, ◌+◌, List, [], ◌∷◌, ◌++◌, length, get_or, take, replicate}
use Rattle.frames.specs.declared.table.Row.{Row}
use Rattle.frames.specs.declared.table.Frame.{Frame}
use Rattle.frames.specs.declared.table.Frame.TheVariants.{Header, Task, Cached, Masked, Rule, Interrupt, Plan, Server, Placed, Processor, Refused, Switch, Accepted, Met}

-- the byte LF, which closes a line
abbrev pub LF : ℕ
LF = 10

-- a kind's two digits, and the widths of its fields
abbrev pub Shape : Type 0
Shape = List ℕ × List ℕ

-- the rows of the table: 01, 02, 03, 05, 06, 07, 11, 12, 13, 14, 1F, 21, 40, 41
abbrev pub rows : List Shape
rows =
    (48 ∷ 49 ∷ [], 2 ∷ 6 ∷ 4 ∷ 4 ∷ 4 ∷ 4 ∷ 4 ∷ [])
    ∷ (48 ∷ 50 ∷ [], 2 ∷ 6 ∷ 6 ∷ 6 ∷ [])
    ∷ (48 ∷ 51 ∷ [], 2 ∷ 6 ∷ 6 ∷ 6 ∷ 4 ∷ [])
    ∷ (48 ∷ 53 ∷ [], 4 ∷ [])
    ∷ (48 ∷ 54 ∷ [], 2 ∷ [])
    ∷ (48 ∷ 55 ∷ [], 2 ∷ 6 ∷ 6 ∷ 6 ∷ 4 ∷ [])
    ∷ (49 ∷ 49 ∷ [], 2 ∷ 2 ∷ 2 ∷ 6 ∷ 8 ∷ [])
    ∷ (49 ∷ 50 ∷ [], 2 ∷ 6 ∷ 8 ∷ 2 ∷ [])
    ∷ (49 ∷ 51 ∷ [], 2 ∷ 2 ∷ [])
    ∷ (49 ∷ 52 ∷ [], 2 ∷ 2 ∷ 6 ∷ [])
    ∷ (49 ∷ 70 ∷ [], 2 ∷ 2 ∷ [])
    ∷ (50 ∷ 49 ∷ [], 8 ∷ 2 ∷ 2 ∷ [])
    ∷ (52 ∷ 48 ∷ [], 8 ∷ [])
    ∷ (52 ∷ 49 ∷ [], 2 ∷ 8 ∷ [])
    ∷ []

-- the frames in the table's order
abbrev pub all_frames : List Frame
all_frames = Header ∷ Task ∷ Cached ∷ Masked ∷ Rule ∷ Interrupt ∷ Plan ∷ Server ∷ Placed ∷ Processor ∷ Refused ∷ Switch ∷ Accepted ∷ Met ∷ []

-- the index of a frame in the table
abbrev pub index_of : Frame → ℕ
index_of Header = 0
index_of Task = 1
index_of Cached = 2
index_of Masked = 3
index_of Rule = 4
index_of Interrupt = 5
index_of Plan = 6
index_of Server = 7
index_of Placed = 8
index_of Processor = 9
index_of Refused = 10
index_of Switch = 11
index_of Accepted = 12
index_of Met = 13

unfoldable pub kind_of : Frame → List ℕ
kind_of frame = (get_or rows (index_of frame) ([], [])).0

-- the widths of a frame's fields
unfoldable pub widths_of : Frame → List ℕ
widths_of frame = (get_or rows (index_of frame) ([], [])).1

-- the number of a frame's fields
abbrev pub fields_in : Frame → ℕ
fields_in frame = length (widths_of frame)

-- the most fields that a frame has, the most digits of a field, and the most digits of a line
abbrev pub most_fields : ℕ
most_fields = 7

abbrev pub most_width : ℕ
most_width = 16

abbrev pub most_digits : ℕ
most_digits = 64

unfoldable pub sum : List ℕ → ℕ
sum [] = 0
sum (n ∷ ns) = n + sum ns

-- the width of a frame's field, counted from 0; a field that the frame lacks has none
abbrev pub width_of : Frame → ℕ → ℕ
width_of frame field = get_or (widths_of frame) field 0

-- where a field starts in its line: after the kind and the fields before it
abbrev pub field_start : Frame → ℕ → ℕ
field_start frame field = 2 + sum (take field (widths_of frame))

-- the digits of a line, its LF not counted
abbrev pub length_of : Frame → ℕ
length_of frame = 2 + sum (widths_of frame)

-- f 0, f 1, .. f (n − 1)
unfoldable pub front : (ℕ → ℕ) → ℕ → List ℕ
front f zero = []
front f (suc n) = f 0 ∷ front (λ (k : ℕ). f (suc k)) n

-- the code's row of a frame: its kind, its widths filled up to the most by fields of no digits, and where each field starts, with the
-- line's end behind the last
unfoldable pub row_of : Frame → Row
row_of frame =
    record {
      kind = kind_of frame;
      fields = fields_in frame;
      widths = take most_fields (widths_of frame ++ replicate most_fields 0);
      starts = front (field_start frame) (most_fields + 1);
    }
