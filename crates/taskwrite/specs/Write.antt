-- What writing a task set answers, and what the lent bytes then hold.
-- Document 01, rows 11 and 12 of the refusals (RULES 6.5); document 02, Req 08.
use Rattle.std.specs.Prelude.{ℕ, ◌≡◌, List, Bool, cond, ◌||◌, length, ltb, Err, Ok}
use Rattle.refusals.specs.declared.Refusal.TheVariants.{Ask, Room}
use Rattle.refusals.specs.Refused.{Written}
use Rattle.tasks.specs.declared.set.TaskSet.{TaskSet}
use Rattle.refusals.specs.Leaves.{leaves}
use Rattle.tasks.specs.Set.{members, interrupts_in}
use Rattle.tasks.specs.Search.{some}
use Rattle.taskrows.specs.Rows.{board_row, range_row, interrupt_row}
use Rattle.taskask.specs.Ask.{ask_row}
use Rattle.tasktext.specs.Text.{text_of}

-- 11 ASK of the task writer: also for a set that breaks row 5 or 6
unfoldable pub writer_asks : TaskSet → Bool
writer_asks set =
    ask_row set ||
    (board_row set.header || (some range_row (members set) || some (interrupt_row set.header.processors) (interrupts_in set)))

-- 11, then 12; else the text's length
unfoldable pub write_of : TaskSet → (buffer : List ℕ) → Written
write_of set buffer =
    cond (writer_asks set) (Err Ask)
    (cond (ltb (length buffer) (length (text_of set))) (Err Room) (Ok (length (text_of set))))

-- What the writer promises of its answer, and of the buffer that it leaves.
abbrev pub Wrote : TaskSet → (before : List ℕ) → Written → (left : List ℕ) → Type 0
Wrote set before written left = (written ≡ write_of set before) × (left ≡ leaves (write_of set before) before (text_of set))
