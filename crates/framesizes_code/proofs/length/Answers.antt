-- `framesizes::length` meets its contract: past the last field the line ends.
-- Assumes nothing.
use mathlib.Core.Path.{◌∙◌}
use Rattle.frames.proofs.Tables.{field_last}
use Rattle.framesizes_code.proofs.length.Goals as goal

pub returns : goal.returns
returns c = c.field_start.ensures ∙ field_last c.args.frame
