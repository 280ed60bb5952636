-- The line that a task stands in: an 03 line where it has a cache cost of its own, else an 02 line.
-- Document 02, Req 07: 02 and 03 lines may alternate, so the set remembers which each was.
use Rattle.std.specs.Prelude.{None, Option, Some, ℕ}
use Rattle.frames.specs.declared.table.Frame.{Frame}
use Rattle.tasks.specs.declared.set.Task.{Task}

-- the kind of line by the cache cost
abbrev pub frame_by : Option ℕ → Frame
frame_by None = Frame.Task
frame_by (Some cost) = Frame.Cached

abbrev pub task_frame : Task → Frame
task_frame t = frame_by t.cache
