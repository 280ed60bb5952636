-- `longest` meets its contract: the table's widths give the line's bytes.
-- Assumes nothing.
use mathlib.Core.Path.{refl}
use Rattle.frames.specs.Table.{widths_of, sum}
use Rattle.switchlist_code.proofs.longest.Goals as goal

pub returns : goal.returns
unfolding widths_of sum
returns c = refl
