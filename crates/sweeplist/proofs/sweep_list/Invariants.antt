-- The names that end in what was read so far are counted.
use Rattle.sweeplist.proofs.SweptLaws.{SoFar}
use Rattle.sweeplist.proofs.sweep_list.Given as goal

abbrev pub invariant-parts : goal.invariant-parts
invariant-parts g l = SoFar (g.R.Read.remaining l.initial.input) (g.R.Read.remaining l.input) l.name l.sweep
