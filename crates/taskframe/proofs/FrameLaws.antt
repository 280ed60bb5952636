-- Laws of the line that a task stands in.
-- Assumes nothing.
use Rattle.std.specs.Prelude.{None, Option, Some, ℕ}
use Prim.Native.Nat.{◌≤◌}
use native.Mathlib.Omega.{arith}
use lib.ListN.{length}
use Rattle.frames.specs.Table.{widths_of, fields_in}
use Rattle.tasks.specs.declared.set.Task.{Task}
use Rattle.tasks.specs.Values.{task_values}
use Rattle.taskframe.specs.Frames.{frame_by, task_frame}

-- a task has a figure for each field of its line
pub task_fields : (t : Task) → fields_in (task_frame t) ≤ length (task_values t)
unfolding widths_of
task_fields t = by_cost t.cache
  where
    by_cost : (cache : Option ℕ) → fields_in (frame_by cache) ≤ 5
    by_cost None = omega arith
    by_cost (Some cost) = omega arith
