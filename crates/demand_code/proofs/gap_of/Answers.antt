-- `gap_of` meets its contract: a whole processor has no gap, and a ring reserve is below the slot.
-- Assumes nothing.
use mathlib.Core.Path.{sym}
use native.Mathlib.Omega.{arith}
use Rattle.demand.proofs.Supply.{gap_whole, gap_part, ring_of}
use Rattle.demand_code.proofs.gap_of.Goals as goal

pub returns-then-reserve-slot : goal.returns-then-reserve-slot
returns-then-reserve-slot c = sym (gap_whole _ _ _ c.if-reserve-slot.true)

pub overflow_sub-result : goal.overflow_sub-result
overflow_sub-result c = let r = ring_of _ _ _ c.if-reserve-slot.false c.requires.0 in omega arith

pub returns : goal.returns
returns c = sym (gap_part _ _ _ c.if-reserve-slot.false)
