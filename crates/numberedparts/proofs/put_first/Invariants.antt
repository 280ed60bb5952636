use Rattle.handed.specs.Handed.{first_at}
use Rattle.numberedparts.specs.Parts.{stand_numbers_at}
use Rattle.numberedparts.proofs.PartsLaws.{PutFirst}
use Rattle.numberedparts.proofs.put_first.Given as goal

abbrev pub invariant-loop-p : goal.invariant-loop-p
invariant-loop-p l = PutFirst (stand_numbers_at l.fn.plan.first) l.initial.numbers first_at l.numbers l.p
