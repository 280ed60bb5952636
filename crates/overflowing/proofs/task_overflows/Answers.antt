-- `task_overflows` meets its contract: the values of the task's line are tested.
-- Assumes nothing.
use native.Mathlib.Omega.{arith}
use mathlib.Core.Path.{◌∙◌, ap}
use lib.ListN.{length}
use Rattle.framesizes.specs.Overflow.{line_overflows}
use Rattle.frames.specs.Table.{widths_of, fields_in}
use Rattle.taskframe.proofs.FrameLaws.{task_fields}
use Rattle.taskask.specs.Ask.{task_overflows}
use Rattle.overflowing.proofs.task_overflows.Goals as goal

pub overflows-requires : goal.overflows-requires
unfolding widths_of
overflows-requires c =
    omega (arith, ap fields_in c.task_frame-frame.ensures, ap length c.task_values-values.ensures, task_fields c.args.task)

pub returns : goal.returns
unfolding task_overflows
returns c =
    c.overflows.ensures
    ∙ (λ i. line_overflows (c.task_frame-frame.ensures i) (c.task_values-values.ensures i))
