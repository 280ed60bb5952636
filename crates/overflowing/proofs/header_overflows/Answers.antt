-- `header_overflows` meets its contract: the line's values are tested.
-- Assumes nothing.
use native.Mathlib.Omega.{arith}
use mathlib.Core.Path.{◌∙◌, ap}
use lib.ListN.{length}
use Rattle.framesizes.specs.Overflow.{line_overflows}
use Rattle.frames.specs.Table.{widths_of}
use Rattle.frames.specs.declared.table.Frame.{Frame}
use Rattle.taskask.specs.Ask.{header_overflows}
use Rattle.overflowing.proofs.header_overflows.Goals as goal

pub overflows-requires : goal.overflows-requires
unfolding widths_of
overflows-requires c = omega (arith, ap length c.header_values-values.ensures)

pub returns : goal.returns
unfolding header_overflows
returns c = c.overflows.ensures ∙ ap (line_overflows Frame.Header) c.header_values-values.ensures
