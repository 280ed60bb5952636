-- `breaks_range` meets its contract: the task's figures are out of range.
use Rattle.taskrows.specs.Rows.{range_row}
use Rattle.taskrows_code.proofs.breaks_range.Goals as goal

pub returns : goal.returns
unfolding range_row
returns c = c.out_of_range.ensures
