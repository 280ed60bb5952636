-- `framesizes::width` meets its contract: the filled row has each field's width.
-- Assumes nothing.
use mathlib.Core.Path.{◌∙◌, ap}
use lib.ListN.{get_or}
use Rattle.frames.specs.declared.table.Row.{Row}
use Rattle.frames.proofs.Tables.{row_width}
use Rattle.framesizes_code.proofs.width.Goals as goal

pub returns : goal.returns
returns c =
    let a = c.args in
    ap (λ (r : Row). get_or r.widths a.field 0) c.row_of-row.ensures ∙ row_width a.frame a.field c.requires
