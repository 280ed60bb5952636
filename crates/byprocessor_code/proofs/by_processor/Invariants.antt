-- The interrupts of the processors before p are put down; and those of p too, among the first few.
use Rattle.std.proofs.Common.{◌+◌, ◌-◌, ◌≤◌}
use Rattle.tasks.specs.Set.{counted}
use Rattle.byprocessor.proofs.ReachLaws.{Grouped, Down}
use Rattle.byprocessor_code.proofs.by_processor.Given as goal

abbrev pub invariant-loop-interrupt : goal.invariant-loop-interrupt
invariant-loop-interrupt l = Down l.p (counted l.fn.interrupts) l.interrupt-index l.at l.numbers

abbrev pub invariant-loop-p : goal.invariant-loop-p
invariant-loop-p l = (l.p ≤ l.m + 1) × Grouped (l.p - 1) (counted l.interrupts) l.at l.numbers
