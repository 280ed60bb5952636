-- The server of the turn at hand is written at its task's place.
use Rattle.std.proofs.Common.{suc, ◌≡◌, ◌-◌, arith}
use Rattle.turns_code.proofs.TurnLaws.{assigned_none, assigned_next, assigned_all}
use Rattle.turns_code.proofs.in_file_order.Goals as goal

pub loop-j-init : goal.loop-j-init
loop-j-init c = assigned_none _ _ _ c.requires.few

pub loop-j-preserved : goal.loop-j-preserved
loop-j-preserved c =
    let next : c.loop-j.j ≡ suc (c.loop-j.j - 1) = omega (arith, c.loop-j-test.true) in
    assigned_next c.requires c.loop-j.invariant next

pub returns : goal.returns
returns c =
    let all : c.loop-j.j ≡ 0 = omega (arith, c.loop-j-test.false) in
    assigned_all c.requires c.loop-j.invariant all
