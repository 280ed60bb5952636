-- How reading the 07 lines ends.
-- Document 01, "Reading takes lines in order" (RULES 6.2); document 02, Req 05 and Req 08.
use Rattle.std.specs.Prelude.{ℕ, ◌+◌, ◌≤◌, List, [], ◌≡◌, length, Err, Ok}
use Rattle.refusals.specs.declared.Refusal.{Refusal}
use Rattle.refusals.specs.First.{till}
use Rattle.tasks.specs.Set.{most_tasks, most_interrupts, interrupts_with}
use Rattle.taskfile.specs.File.{past, line_outcome, tasks_among, interrupts_among}
use Rattle.interruptlines.specs.declared.InterruptLines.{InterruptLines}

-- behind lines that were taken before, more lines are taken, all of them clear and without a task; what they hold is remembered.
-- Then the text ends, or the next line is refused.
pub record Ended (text : List ℕ) (before : ℕ) (r : InterruptLines) : Type 0 where
  pub some : 1 ≤ r.lines
  pub lines : r.lines ≤ most_tasks + most_interrupts + 3
  pub few : length (interrupts_among text r.lines) ≤ most_interrupts
  pub clear : till (line_outcome text) r.lines ≡ Ok tt
  pub tasks : tasks_among text r.lines ≡ tasks_among text before
  pub interrupts : r.interrupts ≡ interrupts_with (interrupts_among text r.lines)
  pub done : r.outcome ≡ Ok tt → past r.lines text ≡ []
  pub refused : (why : Refusal) → r.outcome ≡ Err why → line_outcome text (r.lines + 1) ≡ Err why
