-- `soonest_with` meets its contract: where there is no member the deadline itself, otherwise the smaller. Assumes nothing.
use mathlib.Core.Path.{sym}
use native.Mathlib.Omega.{arith}
use Rattle.joining.proofs.SoonestLaws.{with_none, with_some}
use Rattle.soonest.proofs.soonest_with.Goals as goal

pub returns-then-soonest-eq0 : goal.returns-then-soonest-eq0
returns-then-soonest-eq0 c = sym (with_none _ _ c.if-soonest-eq0.true)

pub returns-then-soonest-due : goal.returns-then-soonest-due
returns-then-soonest-due c = omega (arith, with_some c.args.soonest c.args.due c.if-soonest-eq0.false, c.if-soonest-due.true)

pub returns : goal.returns
returns c = omega (arith, with_some c.args.soonest c.args.due c.if-soonest-eq0.false, c.if-soonest-due.false)
