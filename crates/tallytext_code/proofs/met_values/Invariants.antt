use Rattle.framelines.specs.Each.{each_figures}
use Rattle.framelines.proofs.FillLaws.{Filled}
use Rattle.tallytext.specs.Text.{numbers_told, met_figures}
use Rattle.tallytext_code.proofs.met_values.Given as goal

abbrev pub invariant-loop-k : goal.invariant-loop-k
invariant-loop-k l = Filled (each_figures (met_figures l.tally) 0 numbers_told) 24 12 l.values l.k
