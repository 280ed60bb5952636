-- Row 11 of a task set, with rows 3 and 4 of a set's figures.
-- Document 01, "Refusal numbers and their order" (RULES 6), rows 3, 4 and 11; document 02, Req 04, 05, 07 and 08.
use Rattle.std.specs.Prelude.{List, [], ◌∷◌, Bool, false, ◌||◌, ltb, eqb, None, Option, Some, ℕ}
use Rattle.framesizes.specs.Overflow.{line_overflows}
use Rattle.frames.specs.declared.table.Frame.{Frame}
use Rattle.tasks.specs.declared.set.Header.{Header}
use Rattle.tasks.specs.declared.set.Interrupt.{Interrupt}
use Rattle.tasks.specs.declared.set.Task.{Task}
use Rattle.tasks.specs.declared.set.TaskSet.{TaskSet}
use Rattle.tasks.specs.Set.{most_tasks, most_interrupts, members, interrupts_in, has_id}
use Rattle.tasks.specs.Values.{header_values, task_values, interrupt_values}
use Rattle.tasks.specs.Search.{some}
use Rattle.taskframe.specs.Frames.{task_frame}

-- 3 COUNT: no task, a 65th, or a 33rd interrupt
unfoldable pub count_row : TaskSet → Bool
count_row set = eqb set.count 0 || (ltb most_tasks set.count || ltb most_interrupts set.interrupts.count)

-- 4 TWICE: an id repeats
unfoldable pub twice_row : List Task → Bool
twice_row [] = false
twice_row (t ∷ ts) = some (has_id t.id) ts || twice_row ts

-- a figure of a header, of a task, of an optional line of one field (05 or 06) or of an interrupt is too large for its field
unfoldable pub header_overflows : Header → Bool
header_overflows h = line_overflows Frame.Header (header_values h)

unfoldable pub task_overflows : Task → Bool
task_overflows t = line_overflows (task_frame t) (task_values t)

unfoldable pub optional_overflows : Frame → Option ℕ → Bool
optional_overflows frame None = false
optional_overflows frame (Some figure) = line_overflows frame (figure ∷ [])

unfoldable pub interrupt_overflows : Interrupt → Bool
interrupt_overflows i = line_overflows Frame.Interrupt (interrupt_values i)

-- 11 ASK of a set: it breaks row 3 or 4, or holds what no file's lines can carry
unfoldable pub ask_row : TaskSet → Bool
ask_row set =
    count_row set ||
    (twice_row (members set) ||
    (header_overflows set.header ||
    (some task_overflows (members set) ||
    (optional_overflows Frame.Masked set.header.masked ||
    (optional_overflows Frame.Rule set.header.rule || some interrupt_overflows (interrupts_in set))))))
