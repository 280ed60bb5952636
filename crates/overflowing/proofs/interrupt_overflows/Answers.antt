-- `interrupt_overflows` meets its contract: the line's values are tested.
-- Assumes nothing.
use native.Mathlib.Omega.{arith}
use mathlib.Core.Path.{◌∙◌, ap}
use lib.ListN.{length}
use Rattle.framesizes.specs.Overflow.{line_overflows}
use Rattle.frames.specs.Table.{widths_of}
use Rattle.frames.specs.declared.table.Frame.{Frame}
use Rattle.taskask.specs.Ask.{interrupt_overflows}
use Rattle.overflowing.proofs.interrupt_overflows.Goals as goal

pub overflows-requires : goal.overflows-requires
unfolding widths_of
overflows-requires c = omega (arith, ap length c.interrupt_values-values.ensures)

pub returns : goal.returns
unfolding interrupt_overflows
returns c = c.overflows.ensures ∙ ap (line_overflows Frame.Interrupt) c.interrupt_values-values.ensures
