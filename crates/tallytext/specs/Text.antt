-- The text of a sweep's report: how many were accepted, and how many met each refusal number.
-- Document 02, Req 03, "Sweep report".
use Rattle.std.specs.Prelude.{ℕ, ◌+◌, ◌*◌, List, [], ◌∷◌, ◌++◌, length, get_or}
use Rattle.frames.specs.Table.{length_of}
use Rattle.frames.specs.declared.table.Frame.{Frame}
use Rattle.framewrite.specs.Line.{line_of}
use Rattle.framelines.specs.Each.{each_line, each_figures}
use Rattle.framelines.specs.Figures.{filled}
use Rattle.tally.specs.declared.Tally.{Tally}

-- each refusal number of a reading or a plan, from 0, without 11 and 12
abbrev pub numbers_told : List ℕ
numbers_told = 0 ∷ 1 ∷ 2 ∷ 3 ∷ 4 ∷ 5 ∷ 6 ∷ 7 ∷ 8 ∷ 9 ∷ 10 ∷ 13 ∷ []

-- the figures of a number's 41 line: the number, and how many met it
abbrev pub met_figures : Tally → (number : ℕ) → List ℕ
met_figures t number = number ∷ get_or t.refused number 0 ∷ []

-- that line
abbrev pub met_line : Tally → (number : ℕ) → List ℕ
met_line t number = line_of Frame.Met (met_figures t number)

-- the 40 line, then a 41 line for each number told
unfoldable pub tally_text : Tally → List ℕ
tally_text t = line_of Frame.Accepted (t.accepted ∷ []) ++ each_line (met_line t) numbers_told

-- the bytes of the text, by the table
abbrev pub tally_bytes : ℕ
tally_bytes = (length_of Frame.Accepted + 1) + length numbers_told * (length_of Frame.Met + 1)

-- the figures of all 41 lines, one line behind the other
abbrev pub told_figures : Tally → List ℕ
told_figures t = filled (2 * length numbers_told) (each_figures (met_figures t) 0 numbers_told) (length numbers_told)
