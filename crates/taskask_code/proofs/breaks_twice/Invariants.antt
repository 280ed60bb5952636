-- The tasks from `i` on answer for all.
use Rattle.std.proofs.Common.{◌≡◌, drop, take}
use Rattle.taskask.specs.Ask.{twice_row}
use Rattle.taskask_code.proofs.breaks_twice.Given as goal

abbrev pub invariant-loop-i : goal.invariant-loop-i
invariant-loop-i l = twice_row (take l.set.count l.set.tasks) ≡ twice_row (drop l.i (take l.set.count l.set.tasks))
