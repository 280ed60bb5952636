-- The text of a task set.
-- Document 01, "Lines of hexadecimal" (RULES 5): a task file is one 01 then 02 lines; document 02, Req 04 and Req 05: a 05
-- line and a 06 line behind the 01 line; Req 07: 03 lines among the 02 lines; Req 08: 07 lines after all tasks.
use Rattle.std.specs.Prelude.{ℕ, List, ◌++◌}
use Rattle.framewrite.specs.Line.{line_of}
use Rattle.framelines.specs.Each.{each_line}
use Rattle.frames.specs.declared.table.Frame.{Frame}
use Rattle.tasks.specs.declared.set.Task.{Task}
use Rattle.tasks.specs.declared.set.TaskSet.{TaskSet}
use Rattle.tasks.specs.Set.{members, interrupts_in}
use Rattle.tasks.specs.Values.{header_values, task_values}
use Rattle.taskframe.specs.Frames.{task_frame}
use Rattle.optionallines.specs.Lines.{optional_line, interrupt_lines}

-- the line of a task, of its own kind, and those of all, in file order
abbrev pub task_line : Task → List ℕ
task_line t = line_of (task_frame t) (task_values t)

abbrev pub task_lines : List Task → List ℕ
task_lines ts = each_line task_line ts

-- one 01 line, the 05 line and the 06 line where the set has them, then the lines of the tasks and the 07 lines, each in file order
unfoldable pub text_of : TaskSet → List ℕ
text_of set =
    line_of Frame.Header (header_values set.header) ++
    (optional_line Frame.Masked set.header.masked ++ (optional_line Frame.Rule set.header.rule ++
    (task_lines (members set) ++ interrupt_lines (interrupts_in set))))
