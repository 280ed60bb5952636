use Rattle.std.proofs.Common.{refl, arith}
use Rattle.rows.proofs.FileOrder.{periods_none, periods_next}
use Rattle.horizon_within.proofs.periods.Goals as goal

pub loop-i-init : goal.loop-i-init
loop-i-init c = periods_none _

pub loop-i-preserved : goal.loop-i-preserved
loop-i-preserved c = periods_next c.loop-i.invariant (omega arith) refl

pub returns : goal.returns
returns c = λ k h. c.loop-i.invariant.each k (omega arith)
