-- Whether the next processor starts amid a reserve is what the test tells; behind the last all are counted.
-- Assumes nothing.
use Rattle.std.proofs.Common.{arith, ◌+◌, ◌≤◌}
use Rattle.turncount.proofs.AmidLaws.{Counted, counted_none, counted_room, counted_all_lem, counted_more, counted_same, first_there}
use Rattle.turncount.proofs.amid_count.Goals as goal
use Rattle.turncount.proofs.amid_count.Goals.{After-first-stand, Joined-stand-reserves, then-stand-reserves, else-stand-reserves}

pub loop-p-init : goal.loop-p-init
loop-p-init c = counted_none

pub first-stand-requires : goal.first-stand-requires
first-stand-requires c =
    let laid = c.requires in
    (laid.slotted, omega arith, omega (arith, c.loop-p-test.true, laid.ring))

-- the server of a first reserve is there
there : (c : After-first-stand) → (1 ≤ c.first-stand.result.server) × (c.first-stand.result.server ≤ c.args.turn.servers)
there c = first_there c.requires (omega arith) c.loop-p-test.true c.first-stand.ensures

pub overflow_sub-place : goal.overflow_sub-place
overflow_sub-place c = (there (goal.at.overflow_sub-place c).After-first-stand).0

pub offset_bounds-reserves-place : goal.offset_bounds-reserves-place
offset_bounds-reserves-place c =
    let t = there (goal.at.offset_bounds-reserves-place c).After-first-stand in
    omega (arith, t.1, c.requires.slotted.few)

pub bounds-reserves-place : goal.bounds-reserves-place
bounds-reserves-place c =
    let t = there (goal.at.bounds-reserves-place c).After-first-stand in
    omega (arith, t.0, t.1, c.requires.slotted.there)

pub overflow_add-count : goal.overflow_add-count
overflow_add-count c = omega (arith, counted_room c.loop-p.invariant, c.loop-p.invariant.within, c.requires.few)

-- with the processor the count is that of one more
passed : (c : Joined-stand-reserves) → Counted c.args.turn c.args.reserves.now c.if-stand-reserves.count (c.loop-p.p + 1)
passed c =
    (elim c.if-stand-reserves.branch [
      | then-stand-reserves w ↦ counted_more c.requires (omega arith) c.loop-p-test.true c.first-stand.ensures c.loop-p.invariant w.if-stand-reserves.true w.count-is
      | else-stand-reserves w ↦ counted_same c.requires (omega arith) c.loop-p-test.true c.first-stand.ensures c.loop-p.invariant w.if-stand-reserves.false w.count-is
    ])

pub loop-p-preserved : goal.loop-p-preserved
loop-p-preserved c = passed (goal.at.loop-p-preserved c).Joined-stand-reserves

pub returns-after-stand-reserves : goal.returns-after-stand-reserves
returns-after-stand-reserves c =
    counted_all_lem (passed (goal.at.returns-after-stand-reserves c).Joined-stand-reserves) (omega arith)

pub returns : goal.returns
returns c = counted_all_lem c.loop-p.invariant c.loop-p-test.false
