-- `framesizes::fields_in` meets its contract: the row says it.
-- Assumes nothing.
use mathlib.Core.Path.{ap}
use Rattle.frames.specs.declared.table.Row.{Row}
use Rattle.frames.specs.Table.{row_of}
use Rattle.overflows.proofs.fields_in.Goals as goal

pub returns : goal.returns
unfolding row_of
returns c = ap (λ (r : Row). r.fields) c.row_of-own.ensures
