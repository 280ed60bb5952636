-- `breaks` meets its contract: the row that is named is tried.
-- Assumes nothing.
use mathlib.Core.Path.{sym, ap, ◌∙◌}
use Rattle.tightrows.specs.declared.TaskRow.{TaskRow}
use Rattle.tightrows.specs.Rows.{slot_row, row_of}
use Rattle.tightrows_code.proofs.breaks.Goals as goal

pub returns-in-Slot : goal.returns-in-Slot
unfolding slot_row
returns-in-Slot c =
    let a = c.args in
    sym (ap (λ (r : TaskRow). row_of r a.header a.task) c.in-Slot.is)

pub returns-in-Tight : goal.returns-in-Tight
returns-in-Tight c =
    let a = c.args in
    c.breaks_tight.ensures ∙ sym (ap (λ (r : TaskRow). row_of r a.header a.task) c.in-Tight.is)
