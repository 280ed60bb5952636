-- Rows 5 and 6 over a set, by whether row 5 holds, and whether a task is out of range.
-- Assumes nothing.
use Rattle.std.specs.Prelude.{Err}
use Prim.Native.Nat.{ℕ}
use mathlib.Core.Bool.{true, false}
use mathlib.Core.Path.{◌≡◌}
use Rattle.refusals.specs.declared.Refusal.TheVariants.{Board, Range}
use Rattle.tasks.specs.declared.set.TaskSet.{TaskSet}
use Rattle.tasks.specs.Set.{members, interrupts_in}
use Rattle.tasks.specs.Search.{first_task, at_task}
use Rattle.tasks.proofs.Firsts.{at_some}
use Rattle.taskrows.specs.Rows.{board_row, range_row, interrupt_row, range_at, figures_outcome}

module _ (set : TaskSet) where
  -- rows 5 and 6 where row 5 holds
  pub figures_board : board_row set.header ≡ true → figures_outcome set ≡ Err Board
  unfolding figures_outcome
  figures_board e = rw e

  module _ (board : board_row set.header ≡ false) {t : ℕ} (task : first_task range_row (members set) ≡ t) where
    -- where it does not and a task is out of range, and where none is
    pub figures_task : (t ≡ 0 → ⊥) → figures_outcome set ≡ Err (Range t)
    unfolding figures_outcome
    figures_task some = rw (board, task, at_some Range t some)

    pub figures_interrupts : t ≡ 0 → figures_outcome set ≡ at_task range_at (first_task (interrupt_row set.header.processors) (interrupts_in set))
    unfolding figures_outcome
    figures_interrupts none = rw (board, task, none)
