-- The reserve that ends past the position covers it; past all of them the position is idle.
-- Assumes nothing.
use Rattle.std.proofs.Common.{◌≡◌, ℕ, ◌+◌, ◌*◌, ◌<◌, get_or, take, ap, ◌∙◌, arith}
use lib.Seq.{get_or-take}
use Rattle.reserves.specs.Reserves.{ring_ticks, ring_processors, ring_length}
use Rattle.wholes.specs.Ceiling.{ceiling_of}
use Rattle.reserves.proofs.Starts.{ring_nil, length_room, taken_length}
use Rattle.reserves.proofs.SummedLaws.{summed_none, summed_all, ticks_more, ticks_same, ticks_room}
use Rattle.ring.proofs.StandLaws.{stand_found, stand_past}
use Rattle.ring_code.proofs.stand_at.Goals as goal
use Rattle.ring_code.proofs.stand_at.Goals.{In-loop-i, After-loop-i, After-ceiling, else-reserve-slot, then-reserve-slot+else-place-end}

pub loop-i-init : goal.loop-i-init
loop-i-init c = (summed_none (ring_nil _), omega arith)

-- the next of the first n reserves
own : (c : In-loop-i) → (c.loop-i.i < c.args.n) × (get_or (take c.args.n c.args.reserves.now) c.loop-i.i 0 ≡ get_or c.args.reserves.now c.loop-i.i 0)
own c =
    let h : c.loop-i.i < c.args.n = omega (arith, c.loop-i-test.true, taken_length c.requires.0) in
    (h, get_or-take c.args.n c.args.reserves.now c.loop-i.i 0 h)

pub overflow_add-end : goal.overflow_add-end
overflow_add-end c =
    let o = own (goal.at.overflow_add-end c).In-loop-i in
    omega (arith, c.requires.0.slot_below, o.1, c.requires.0.within c.loop-i.i o.0, ticks_room c.requires.0 c.loop-i.invariant.0)

pub returns-then-place-end : goal.returns-then-place-end
returns-then-place-end c =
    let o = own (goal.at.returns-then-place-end c).In-loop-i in
    let reserve : ℕ = get_or c.args.reserves.now c.loop-i.i 0 in
    let ring : reserve < c.args.slot = omega (arith, o.1, c.if-reserve-slot.true) in
    let before : c.args.at.0 < c.loop-i.end + reserve = omega (arith, o.1, c.if-place-end.true) in
    rw o.1 (stand_found c.requires.0 c.args.at c.loop-i.i c.loop-i.end o.0 ring c.loop-i.invariant.0.so_far c.loop-i.invariant.1 before)

pub loop-i-preserved : goal.loop-i-preserved
loop-i-preserved c =
    let o = own (goal.at.loop-i-preserved c).In-loop-i in
    let laid = c.requires.0 in
    (elim c.if-reserve-slot.branch [
      | then-reserve-slot+else-place-end w ↦
          (ticks_more laid c.loop-i.invariant.0 o.0 (omega (arith, o.1, w.if-reserve-slot.true)) (omega (arith, o.1, w.end-is)), omega (arith, w.end-is, w.if-place-end.false))
      | else-reserve-slot w ↦ (ticks_same laid c.loop-i.invariant.0 o.0 (omega (arith, o.1, w.if-reserve-slot.false)) w.end-is, omega (arith, w.end-is, c.loop-i.invariant.1))
    ])

-- after the loop all reserves are passed
passed : (c : After-loop-i) → c.loop-i.end ≡ ring_ticks c.args.slot (take c.args.n c.args.reserves.now)
passed c = summed_all c.loop-i.invariant.0 (omega (arith, c.loop-i-test.false, taken_length c.requires.0))

rounded : (c : After-ceiling) → c.ceiling.result ≡ ring_processors c.args.slot (take c.args.n c.args.reserves.now)
rounded c = c.ceiling.ensures ∙ ap (λ (t : ℕ). ceiling_of t c.args.slot) (passed (goal.at.After-ceiling c).After-loop-i)

whole : (c : After-ceiling) → c.ceiling.result * c.args.slot ≡ ring_length c.args.slot (take c.args.n c.args.reserves.now)
whole c = ap (λ (r : ℕ). r * c.args.slot) (rounded c)

pub overflow_mul-length : goal.overflow_mul-length
overflow_mul-length c = omega (arith, whole (goal.at.overflow_mul-length c).After-ceiling, length_room c.requires.0)

pub overflow_sub-left-2 : goal.overflow_sub-left-2
overflow_sub-left-2 c = omega (arith, whole (goal.at.overflow_sub-left-2 c).After-ceiling, c.requires.1)

pub returns : goal.returns
returns c =
    stand_past c.requires.0 c.args.at c.ceiling.result (rounded (goal.at.returns c).After-ceiling) (omega (arith, passed (goal.at.returns c).After-loop-i, c.loop-i.invariant.1))
