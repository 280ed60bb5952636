-- `looks_at` meets its contract: the table's widths give the lines' bytes.
use mathlib.Core.Path.{refl}
use Rattle.frames.specs.Table.{widths_of, sum}
use Rattle.readbytes.proofs.looks_at.Goals as goal

pub returns : goal.returns
unfolding widths_of sum
returns c = refl
