-- How reading the 02 and 03 lines ends.
-- Document 01, "Reading takes lines in order" (RULES 6.2); document 02, Req 07 and Req 08.
use Rattle.std.specs.Prelude.{ℕ, ◌+◌, List, [], ◌≡◌, Err, Ok}
use Rattle.refusals.specs.declared.Refusal.{Refusal}
use Rattle.tasks.specs.Set.{set_of}
use Rattle.taskfile.specs.File.{line_outcome, file_header, tasks_among}
use Rattle.taskfile.specs.Taken.{Tasked, BehindTasks}
use Rattle.tasklines.specs.declared.TaskLines.{TaskLines}

-- lines are taken, all of them clear and none an 07 line; the set has what they hold. Then no task follows, or the next line is refused.
pub record Ended (text : List ℕ) (r : TaskLines) : Type 0 where
  pub tasked : Tasked text r.lines r.at
  pub all : r.set ≡ set_of (file_header text) (tasks_among text r.lines) []
  pub done : r.outcome ≡ Ok tt → BehindTasks text r.lines r.at
  pub refused : (why : Refusal) → r.outcome ≡ Err why → line_outcome text (r.lines + 1) ≡ Err why
