use Rattle.framelines.proofs.FillLaws.{Filled}
use Rattle.optionallines.specs.Lines.{most_figures, interrupt_figures}
use Rattle.put_interrupts.proofs.interrupt_figures.Given as goal

abbrev pub invariant-loop-k : goal.invariant-loop-k
invariant-loop-k l = Filled (interrupt_figures l.interrupts.each) most_figures l.interrupts.count l.values l.k
