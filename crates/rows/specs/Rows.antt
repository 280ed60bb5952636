-- Row 9 of the refusals, by its own test, and the first of rows 5 to 9 that holds of a set.
-- Document 01, "Refusal numbers and their order" (RULES 6); document 02, Req 07 and Req 08.
use Rattle.refusals.specs.declared.Refusal.{Refusal}
use Rattle.std.specs.Prelude.{ℕ, ◌≤◌, ◌<◌, List, map, ◌++◌, ◌≡◌, Bool, false, ltb, get_or, Err, Ok, Result}
use Rattle.refusals.specs.declared.Refusal.TheVariants.{Slot, Tight, Horizon}
use Rattle.refusals.specs.Refused.{Outcome}
use Rattle.wholes.specs.Multiple.{least_multiple_of}
use Rattle.tasks.specs.declared.set.Task.{Task}
use Rattle.tasks.specs.declared.set.TaskSet.{TaskSet}
use Rattle.tasks.specs.declared.set.Interrupts.{Interrupts}
use Rattle.interrupting.specs.Interrupts.{Bound}
use Rattle.tasks.specs.Set.{most_tasks, most_interrupts, members, interrupts_in, zero_interrupt, longest_horizon}
use Rattle.refusals.specs.First.{first_of, when}
use Rattle.tasks.specs.Search.{first_task, at_task}
use Rattle.taskrows.specs.Rows.{board_row, range_row, interrupt_row, figures_outcome}
use Rattle.setfigures.specs.Board.{set_interrupts}
use Rattle.tightrows.specs.Rows.{slot_row, tight_row}

-- the horizon H: the least common multiple of S and every T of the file, the tasks' and the interrupts'
unfoldable pub horizon_of : TaskSet → ℕ
horizon_of set =
    least_multiple_of set.header.slot (map (λ (t : Task). t.period) (members set) ++ map (λ (b : Bound). b.load.period) (set_interrupts set))

-- 9 HORIZON: H > 10,000,000
unfoldable pub horizon_row : TaskSet → Bool
horizon_row set = ltb longest_horizon (horizon_of set)

-- rows 5 to 9 in order, each over all tasks before the next
unfoldable pub charged_outcome : TaskSet → Outcome
charged_outcome set =
    first_of (figures_outcome set)
    (first_of (at_task Slot (first_task (slot_row set.header) (members set)))
    (first_of (at_task Tight (first_task (tight_row set.header) (members set))) (when (horizon_row set) Horizon)))

-- what the rows say of a set, and the horizon where they are clear
abbrev pub cleared : Outcome → (H : ℕ) → Result ℕ Refusal
cleared (Ok _) H = Ok H
cleared (Err r) H = Err r

-- rows 5 to 9: refused by the first that holds, else clear with the horizon
unfoldable pub rows_of : TaskSet → Result ℕ Refusal
rows_of set = cleared (charged_outcome set) (horizon_of set)

-- what charging a set and its horizon ask: few tasks and interrupts, and rows 5, 6 and 8 clear
pub record Chargeable (set : TaskSet) : Type 0 where
  pub few : set.count ≤ most_tasks
  pub few_interrupts : set.interrupts.count ≤ most_interrupts
  pub board : board_row set.header ≡ false
  pub range : first_task range_row (members set) ≡ 0
  pub interrupts : first_task (interrupt_row set.header.processors) (interrupts_in set) ≡ 0
  pub tight : first_task (tight_row set.header) (members set) ≡ 0

-- rows 5 to 9 are clear
pub record RowsClear (set : TaskSet) : Type 0 where
  pub board : board_row set.header ≡ false
  pub range : first_task range_row (members set) ≡ 0
  pub interrupts : first_task (interrupt_row set.header.processors) (interrupts_in set) ≡ 0
  pub slot : first_task (slot_row set.header) (members set) ≡ 0
  pub tight : first_task (tight_row set.header) (members set) ≡ 0
  pub horizon : horizon_row set ≡ false

-- the interrupts' periods stand at the front of these numbers, in file order
abbrev pub PeriodsOf : Interrupts → (numbers : List ℕ) → Type 0
PeriodsOf interrupts numbers = (k : ℕ) → k < interrupts.count → get_or numbers k 0 ≡ (get_or interrupts.each k zero_interrupt).period
