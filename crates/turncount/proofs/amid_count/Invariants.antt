-- The count is that of the processors before p.
use Rattle.turncount.proofs.AmidLaws.{Counted}
use Rattle.turncount.proofs.amid_count.Given as goal

abbrev pub invariant-loop-p : goal.invariant-loop-p
invariant-loop-p l = Counted l.turn l.reserves l.count l.p
