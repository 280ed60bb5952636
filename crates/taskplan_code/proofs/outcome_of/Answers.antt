-- A file is read, its rows are tried, and it is settled: its outcome is that of its set and plan.
-- Assumes nothing.
use Rattle.filerows.proofs.FileLaws.{read_cleared, file_outcome}
use Rattle.taskplan_code.proofs.outcome_of.Goals as goal

pub settle-made-requires : goal.settle-made-requires
settle-made-requires c = read_cleared _ c.rows_read-rows.ensures

pub returns : goal.returns
returns c =
    file_outcome _ c.rows_read-rows.ensures _ c.read-answer.ensures c.settle-made.ensures
