-- What reading a task file answers: the set, or the first refusal of rows 1 to 6 and the all-zero set.
-- Document 01, "Refusal numbers and their order" (RULES 6).
use Rattle.std.specs.Prelude.{ℕ, ◌+◌, List, length, Err, Ok}
use Rattle.refusals.specs.Refused.{Outcome}
use Rattle.refusals.specs.First.{first_of, till}
use Rattle.tasks.specs.declared.set.TaskSet.{TaskSet}
use Rattle.taskread.specs.declared.read.ReadAnswer.{ReadAnswer}
use Rattle.tasks.specs.Set.{set_of, zero_set}
use Rattle.taskrows.specs.Rows.{figures_outcome}
use Rattle.taskfile.specs.File.{line_outcome, file_header, file_tasks, file_interrupts}

-- the set that a file's lines hold
unfoldable pub file_set : List ℕ → TaskSet
file_set text = set_of (file_header text) (file_tasks text) (file_interrupts text)

-- a refused read gives the all-zero set
abbrev pub answer : Outcome → TaskSet → ReadAnswer
answer (Ok _) set = record { outcome = Ok tt; set = set }
answer (Err r) set = record { outcome = Err r; set = zero_set }

-- the lines in order, each of the file and the one after the last; then rows 5 and 6
unfoldable pub read_outcome : List ℕ → Outcome
read_outcome text = first_of (till (line_outcome text) (length text + 2)) (figures_outcome (file_set text))

unfoldable pub read_of : List ℕ → ReadAnswer
read_of text = answer (read_outcome text) (file_set text)
