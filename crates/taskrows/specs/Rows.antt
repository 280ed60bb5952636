-- Rows 5 and 6 of the refusals, over the figures of a task set.
-- Document 01, "Refusal numbers and their order" (RULES 6); document 02, Req 05 and Req 08.
use Rattle.std.specs.Prelude.{ℕ, ◌+◌, Bool, not, ◌&&◌, ◌||◌, leb, ltb, eqb}
use Rattle.refusals.specs.declared.Refusal.{Refusal}
use Rattle.refusals.specs.declared.Refusal.TheVariants.{Board, Range}
use Rattle.refusals.specs.Refused.{Outcome}
use Rattle.refusals.specs.First.{first_of, when}
use Rattle.tasks.specs.declared.set.Header.{Header}
use Rattle.tasks.specs.declared.set.Interrupt.{Interrupt}
use Rattle.tasks.specs.declared.set.Task.{Task}
use Rattle.tasks.specs.declared.set.TaskSet.{TaskSet}
use Rattle.tasks.specs.Set.{most_tasks, most_processors, longest_period, last_rule, rule_number, members, interrupts_in}
use Rattle.tasks.specs.Search.{first_task, at_task}

-- 5 BOARD: m outside 1..64, S = 0, or a rule above 08
unfoldable pub board_row : Header → Bool
board_row h =
    not (leb 1 h.processors && leb h.processors most_processors) || (eqb h.slot 0 || ltb last_rule (rule_number h))

-- figures that break 1 ≤ C ≤ D ≤ T ≤ 1,000,000
abbrev pub out_of_range : (cost deadline period : ℕ) → Bool
out_of_range c d t = not (leb 1 c && (leb c d && (leb d t && leb t longest_period)))

-- 6 RANGE: a task breaks 1 ≤ C ≤ D ≤ T ≤ 1,000,000
unfoldable pub range_row : Task → Bool
range_row t = out_of_range t.cost t.deadline t.period

-- 6 RANGE of m processors: an interrupt breaks this too, or has J ≥ D or a processor outside 1..m
unfoldable pub interrupt_row : (processors : ℕ) → Interrupt → Bool
interrupt_row m i =
    out_of_range i.cost i.deadline i.period ||
    (leb i.deadline i.jitter || not (leb 1 i.processor && leb i.processor m))

-- row 6 at interrupt k, from 1: its place stands behind those of the tasks
abbrev pub range_at : ℕ → Refusal
range_at k = Range (most_tasks + k)

-- rows 5 and 6 over a set, the first that holds: the board, the tasks in file order, the interrupts in file order
unfoldable pub figures_outcome : TaskSet → Outcome
figures_outcome set =
    first_of (when (board_row set.header) Board)
    (first_of (at_task Range (first_task range_row (members set)))
    (at_task range_at (first_task (interrupt_row set.header.processors) (interrupts_in set))))
