-- Rows 7 and 8 of the refusals, each by its own test on a task.
-- Document 01, "Refusal numbers and their order" (RULES 6); document 02, Req 07.
use Rattle.std.specs.Prelude.{Bool, ◌||◌, leb, ltb}
use Rattle.tasks.specs.declared.set.Header.{Header}
use Rattle.tasks.specs.declared.set.Task.{Task}
use Rattle.demand.specs.Load.{Load}
use Rattle.loads.specs.Charge.{charged_in}
use Rattle.loads.specs.Figures.{figures_of}
use Rattle.tightrows.specs.declared.TaskRow.{TaskRow}

-- 7 SLOT: a task has D < S
unfoldable pub slot_row : Header → Task → Bool
slot_row h t = ltb t.deadline h.slot

-- a task charged with its own cache cost
abbrev pub own_load : Header → Task → Load
own_load h t = charged_in h (figures_of h t).cache (figures_of h t)

-- 8 TIGHT: a task has RelJ ≥ D or c > d
unfoldable pub tight_row : Header → Task → Bool
tight_row h t = leb t.deadline h.relj || ltb (own_load h t).deadline (own_load h t).cost

-- the rows that are tried on each task
abbrev pub row_of : TaskRow → Header → Task → Bool
row_of TaskRow.Slot = slot_row
row_of TaskRow.Tight = tight_row
