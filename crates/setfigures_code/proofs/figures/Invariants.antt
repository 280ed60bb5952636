-- The figures of the tasks passed are filled in.
use Rattle.std.proofs.Common.{◌≡◌}
use Rattle.setfigures.proofs.FigureLaws.{numbers_to}
use Rattle.setfigures_code.proofs.figures.Given as goal

abbrev pub invariant-loop-i : goal.invariant-loop-i
invariant-loop-i l = l.numbers ≡ numbers_to l.header l.set.tasks l.i
