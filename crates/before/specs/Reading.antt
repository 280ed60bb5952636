-- Reading a task file as it was before a request.
use Rattle.std.specs.Prelude.{ℕ, ◌+◌, List, Bool, not, ◌&&◌, ◌||◌, leb, eqb, length}
use Rattle.refusals.specs.declared.Refusal.TheVariants.{Line, Order, Count, Twice, Board, Range}
use Rattle.refusals.specs.Refused.{Outcome}
use Rattle.refusals.specs.First.{first_of, when, till}
use Rattle.tasks.specs.declared.set.Header.{Header}
use Rattle.tasks.specs.declared.set.TaskSet.{TaskSet}
use Rattle.tasks.specs.Set.{most_processors, members, interrupts_in, set_of}
use Rattle.tasks.specs.Search.{first_task, at_task}
use Rattle.taskrows.specs.Rows.{range_row, interrupt_row, range_at}
use Rattle.taskfile.specs.File.{twice_line_row, file_tasks, file_interrupts}
use Rattle.taskread.specs.declared.read.ReadAnswer.{ReadAnswer}
use Rattle.taskread.specs.Read.{answer}
use Rattle.before.specs.Earlier.{Earlier, known}

-- at one line the lowest number wins
unfoldable pub had_line : Earlier → List ℕ → ℕ → Outcome
had_line e text k =
    first_of (when (e.line text k) (Line k))
    (first_of (when (e.order text k) (Order k))
    (first_of (when (e.count text k) (Count k)) (when (twice_line_row text k) (Twice k))))

unfoldable pub had_set : Earlier → List ℕ → TaskSet
had_set e text = set_of (e.header text) (file_tasks text) (known e (file_interrupts text))

-- 5 BOARD: m outside 1..64, or S = 0
unfoldable pub had_board : Header → Bool
had_board h = not (leb 1 h.processors && leb h.processors most_processors) || eqb h.slot 0

-- rows 5 and 6
unfoldable pub had_figures : Earlier → TaskSet → Outcome
had_figures e set =
    first_of (when (had_board set.header) Board)
    (first_of (at_task Range (first_task range_row (members set)))
    (at_task range_at (first_task (interrupt_row set.header.processors) (known e (interrupts_in set)))))

-- the lines in order, then rows 5 and 6
unfoldable pub had_read_outcome : Earlier → List ℕ → Outcome
had_read_outcome e text = first_of (till (had_line e text) (length text + 2)) (had_figures e (had_set e text))

unfoldable pub had_read : Earlier → List ℕ → ReadAnswer
had_read e text = answer (had_read_outcome e text) (had_set e text)
