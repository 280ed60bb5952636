-- Row 6 of an interrupt, part by part.
-- Assumes nothing.
use Prim.Native.Nat.{ℕ}
use mathlib.Core.Bool.{true, false, not, ◌&&◌}
use mathlib.Core.Path.{◌≡◌}
use lib.Dec.{leb}
use Rattle.tasks.specs.declared.set.Interrupt.{Interrupt}
use Rattle.taskrows.specs.Rows.{out_of_range, interrupt_row}

module _ (m : ℕ) (i : Interrupt) where
  pub row_figures : out_of_range i.cost i.deadline i.period ≡ true → interrupt_row m i ≡ true
  unfolding interrupt_row
  row_figures e = rw e

  module _ (figures : out_of_range i.cost i.deadline i.period ≡ false) where
    pub row_jitter : leb i.deadline i.jitter ≡ true → interrupt_row m i ≡ true
    unfolding interrupt_row
    row_jitter e = rw (figures, e)

    pub row_processor : leb i.deadline i.jitter ≡ false → interrupt_row m i ≡ not (leb 1 i.processor && leb i.processor m)
    unfolding interrupt_row
    row_processor e = rw (figures, e)
