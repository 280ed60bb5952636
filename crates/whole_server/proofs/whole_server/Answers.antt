-- A ring server is passed over; one that has a whole processor is the one asked for, or one less is asked of the rest.
-- Assumes nothing.
use Rattle.std.proofs.Common.{◌≡◌, ◌<◌, get_or, take, arith}
use lib.Seq.{get_or-take}
use Rattle.reserves.proofs.Starts.{taken_length}
use Rattle.reserves.proofs.WholeLaws.{walked_none, walked_here, walked_past, walked_next, walked_all}
use Rattle.whole_server.proofs.whole_server.Goals as goal
use Rattle.whole_server.proofs.whole_server.Goals.{In-loop-i, then-slot-reserve+else-here, else-slot-reserve}

pub loop-i-init : goal.loop-i-init
loop-i-init c = walked_none

-- the next of the first n reserves
own : (c : In-loop-i) → (c.loop-i.i < c.args.n) × (get_or (take c.args.n c.args.reserves.now) c.loop-i.i 0 ≡ get_or c.args.reserves.now c.loop-i.i 0)
own c =
    let h : c.loop-i.i < c.args.n = omega (arith, c.loop-i-test.true, taken_length c.requires) in
    (h, get_or-take c.args.n c.args.reserves.now c.loop-i.i 0 h)

pub returns-then-here : goal.returns-then-here
returns-then-here c =
    let o = own (goal.at.returns-then-here c).In-loop-i in
    walked_here c.requires c.loop-i.invariant o.0 (omega (arith, o.1, c.if-slot-reserve.true)) (omega (arith, c.if-here.true))

pub loop-i-preserved : goal.loop-i-preserved
loop-i-preserved c =
    let o = own (goal.at.loop-i-preserved c).In-loop-i in
    elim c.if-slot-reserve.branch [
      | then-slot-reserve+else-here w ↦ walked_next c.requires c.loop-i.invariant o.0 (omega (arith, o.1, w.if-slot-reserve.true)) (omega (arith, w.if-here.false)) w.more-is
      | else-slot-reserve w ↦ walked_past c.requires c.loop-i.invariant o.0 (omega (arith, o.1, w.if-slot-reserve.false)) w.more-is
    ]

pub returns : goal.returns
returns c = walked_all c.requires c.loop-i.invariant (omega (arith, c.loop-i-test.false, taken_length c.requires))
