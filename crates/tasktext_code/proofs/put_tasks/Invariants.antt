-- The lines of the first `i` tasks are put, one behind the other.
use Rattle.framelines.proofs.EachPutLaws.{EachPut}
use Rattle.tasktext.specs.Text.{task_line}
use Rattle.tasktext_code.proofs.put_tasks.Given as goal

abbrev pub invariant-loop-i : goal.invariant-loop-i
invariant-loop-i l = EachPut task_line l.initial.out l.at l.set.tasks l.set.count l.out l.next l.i
