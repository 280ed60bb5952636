-- What stands on the ring behind the stretch follows it; behind the last reserve the idle positions do, or the ring begins again.
-- Assumes nothing.
use Rattle.std.proofs.Common.{◌≡◌, ◌≤◌, ◌<◌, get_or, take, refl, ◌∙◌, arith}
use Rattle.reserves.specs.Reserves.{ring_length, idle_positions}
use Rattle.ring.specs.Cover.{stand_at}
use Rattle.turn.specs.Stretch.{stand_after}
use Rattle.reserves.proofs.SummedLaws.{ticks_same}
use Rattle.stretch.proofs.AfterLaws.{behind_first, behind_found, behind_idle, behind_again}
use Rattle.stretch.proofs.stand_after.Goals as goal
use Rattle.stretch.proofs.stand_after.Goals.{Else-has_idle}

pub loop-i-init : goal.loop-i-init
loop-i-init c = behind_first c.requires.slotted_first.0 c.requires.stretched

pub returns-then-reserve-slot : goal.returns-then-reserve-slot
returns-then-reserve-slot c =
    let ring : get_or c.args.reserves.now c.loop-i.i 0 < c.args.slot = omega (arith, c.if-reserve-slot.true) in
    behind_found c.requires.slotted_first.0 c.requires.stretched c.loop-i.invariant c.loop-i-test.true ring

pub loop-i-preserved : goal.loop-i-preserved
loop-i-preserved c =
    let whole : c.args.slot ≤ get_or c.args.reserves.now c.loop-i.i 0 = omega (arith, c.if-reserve-slot.false) in
    ticks_same c.requires.slotted_first.0 c.loop-i.invariant c.loop-i-test.true whole refl

pub returns-then-has_idle : goal.returns-then-has_idle
returns-then-has_idle c =
    let some : 1 ≤ c.args.idle = omega (arith, c.if-has_idle.true) in
    behind_idle c.requires.slotted_first.0 c.requires.stretched c.loop-i.invariant c.loop-i-test.false c.requires.slotted_first.1 some

-- where there are no idle positions, the ring is there and begins again
again : (c : Else-has_idle) →
    let rs = take c.args.n c.args.reserves.now in
    (0 < ring_length c.args.slot rs) × (stand_at c.args.slot rs (record { 0 = 0 }) ≡ stand_after c.args.slot rs c.args.server)
again c =
    let none : idle_positions c.args.slot (take c.args.n c.args.reserves.now) ≡ 0 = omega (arith, c.if-has_idle.false, c.requires.slotted_first.1) in
    behind_again c.requires.slotted_first.0 c.args.server c.requires.stretched c.loop-i.invariant c.loop-i-test.false none

pub stand_at-requires : goal.stand_at-requires
stand_at-requires c = (c.requires.slotted_first.0, (again (goal.at.stand_at-requires c).Else-has_idle).0)

pub returns : goal.returns
returns c = c.stand_at.ensures ∙ (again (goal.at.returns c).Else-has_idle).1
