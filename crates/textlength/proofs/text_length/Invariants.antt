-- The lines of the first `i` tasks are counted.
use Rattle.std.proofs.Common.{◌≡◌, length, take}
use Rattle.tasktext.specs.Text.{task_lines}
use Rattle.textlength.proofs.text_length.Given as goal

abbrev pub invariant-loop-i : goal.invariant-loop-i
invariant-loop-i l = l.tasks ≡ length (task_lines (take l.i l.set.tasks))
