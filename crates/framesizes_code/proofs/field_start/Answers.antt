-- `framesizes::field_start` meets its contract: the row has each field's start.
-- Assumes nothing.
use mathlib.Core.Path.{◌∙◌, ap}
use lib.ListN.{get_or}
use Rattle.frames.specs.declared.table.Row.{Row}
use Rattle.frames.proofs.Tables.{row_start}
use Rattle.framesizes_code.proofs.field_start.Goals as goal

pub returns : goal.returns
returns c =
    let a = c.args in
    ap (λ (r : Row). get_or r.starts a.field 0) c.row_of-line.ensures ∙ row_start a.frame a.field c.requires
