-- No task before task i breaks the row.
use Rattle.tasks.specs.Set.{zero_task}
use Rattle.tasks.proofs.SearchLaws.{Passed}
use Rattle.tightrows.specs.Rows.{row_of}
use Rattle.tightrows_code.proofs.first_broken.Given as goal

abbrev pub invariant-loop-i : goal.invariant-loop-i
invariant-loop-i l = Passed (row_of l.row l.header) zero_task l.set.tasks l.set.count l.i
