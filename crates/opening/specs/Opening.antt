-- The lines of a task file before its tasks. Document 02, Req 04 and Req 05 (RULES 5.2).
use Rattle.std.specs.Prelude.{ℕ, ◌+◌, cond, List}
use Rattle.frameread.specs.Line.{formed}
use Rattle.frames.specs.declared.table.Frame.{Frame}
use Rattle.taskfile.specs.File.{given_by, bytes_by, file_header, opening_lines, opening_bytes}
use Rattle.opening.specs.declared.Opening.{Opening}
use Rattle.opening.specs.declared.OptionalLine.{OptionalLine}

-- the board's figures, the bytes of these lines, and their number
unfoldable pub opening_of : List ℕ → Opening
opening_of text = record { header = file_header text; at = opening_bytes text; lines = opening_lines text }

-- a line of this kind, if the rest of the text starts with one, behind so many bytes and lines
unfoldable pub optional_of : Frame → (rest : List ℕ) → (at lines : ℕ) → OptionalLine
optional_of kind rest at lines = record { figure = given_by kind rest; at = at + bytes_by kind rest; lines = lines + cond (formed kind rest) 1 0 }
