-- `put_turn` meets its contract. The loop's invariant: the lines before the tick are put, and every processor is carried up to it.
-- The measure is what is left of the turn. Assumes nothing.
use Prim.Native.Nat.{◌-◌, ◌*◌, ◌<◌}
use mathlib.Core.Path.{◌≡◌, refl, sym, ap, ◌∙◌}
use borrow.Author.Rules.{rules}
use native.Mathlib.Nat.{mul-le-mul_left}
use native.Mathlib.Omega.{arith}
use lib.ListN.{length, take}
use Rattle.tasks.specs.Set.{most_processors}
use Rattle.turn.specs.Stretch.{Laid}
use Rattle.ticklines.specs.declared.Next.{Next}
use Rattle.switchline.proofs.LaidLaws.{laid_slotted, laid_room}
use Rattle.walk.proofs.SkipLaws.{Turned, turned_none, turned_room, turned_next, turned_all, next_later}
use Rattle.walk.proofs.put_turn.Statement.{statement}
use Rattle.walk.proofs.put_turn.Tie as tie

abbrev invariant-loop-tick : tie.invariant-loop-tick
invariant-loop-tick out₀ reserves turn end servers₀ until₀ row at₀ tick₀ out servers until at tick =
    Turned turn.slot (take turn.servers reserves) turn.ring out₀ out servers until at tick
    × (length servers ≡ most_processors) × (length until ≡ most_processors)

abbrev decreases-loop-tick : tie.decreases-loop-tick
decreases-loop-tick out₀ reserves turn end servers₀ until₀ row at₀ tick₀ out servers until at tick = end - tick

overflow_mul-end : tie.Need-overflow_mul-end invariant-loop-tick decreases-loop-tick
overflow_mul-end c = omega (arith, laid_room c.requires.0, c.requires.0.few)

loop-tick-init : tie.Need-loop-tick-init invariant-loop-tick decreases-loop-tick
loop-tick-init c = (turned_none _ _ {m = most_processors} _ c.requires.0.few, refl, refl)

slice_bounds-put_tick-end : tie.Need-slice_bounds-put_tick-end invariant-loop-tick decreases-loop-tick
slice_bounds-put_tick-end c = sym c.loop-tick.invariant.1

slice_bounds-put_tick-end-in-loop-tick : tie.Need-slice_bounds-put_tick-end-in-loop-tick invariant-loop-tick decreases-loop-tick
slice_bounds-put_tick-end-in-loop-tick c = sym c.loop-tick.invariant.2

-- the turn goes on at a tick
module _ (c : tie.In-loop-tick invariant-loop-tick decreases-loop-tick) where
  abbrev start : tie.Start invariant-loop-tick decreases-loop-tick
  start = c.before.before.before.before.before.before

  laid : Laid start.args.turn start.args.reserves.now
  laid = start.requires.0

  below : c.loop-tick.tick < start.args.turn.ring * start.args.turn.slot
  below = omega (arith, c.loop-tick-test.true, mul-le-mul_left start.args.turn.ring laid.slotted.slot_some)

put_tick-next-requires : tie.Need-put_tick-next-requires invariant-loop-tick decreases-loop-tick
put_tick-next-requires c κs =
    let l = c.before.before.before in
    let w = l.loop-tick.invariant.0 in (
      (laid l, below l, l.row_of-row.ensures),
      (w.carried, omega (arith, w.same, turned_room (laid_slotted (laid l)) (laid l).ring w (below l) (start l).requires.1)),
    )

-- what the call answers is the tick of the next switch, or the turn's end
later : (c : tie.After-put_tick-next invariant-loop-tick decreases-loop-tick) → c.loop-tick.tick < c.put_tick-next.result.tick
later c =
    let l = c.before.before.before.before in
    omega (arith, ap (λ (n : Next). n.tick) c.put_tick-next.ensures.0, next_later (laid_slotted (laid l)) (laid l).ring l.loop-tick.invariant.0 (below l))

loop-tick-smaller : tie.Need-loop-tick-smaller invariant-loop-tick decreases-loop-tick
loop-tick-smaller c = omega (arith, later c.before.before.before.before, c.loop-tick-test.true)

loop-tick-preserved : tie.Need-loop-tick-preserved invariant-loop-tick decreases-loop-tick
loop-tick-preserved c =
    let put = c.put_tick-next in
    let l = c.before.before.before.before.before.before.before.before in
    let w = l.loop-tick.invariant in (
      rw put.ensures.0 (turned_next (laid_slotted (laid l)) (laid l).ring w.0 (below l) (start l).requires.1 put.ensures.1.0 put.auto.out put.ensures.1.1.0),
      put.auto.servers ∙ w.1,
      put.auto.until ∙ w.2,
    )

shape_of-out : tie.Need-shape_of-out invariant-loop-tick decreases-loop-tick
shape_of-out c = c.loop-tick.invariant.0.same

returns : tie.Need-returns invariant-loop-tick decreases-loop-tick
returns c =
    turned_all c.requires.0.ring c.loop-tick.invariant.0 (omega (arith, c.loop-tick-test.false))

pub put_turn_spec : {M : Type 1} → statement M
put_turn_spec =
    tie.close
    (tie.spec
    invariant-loop-tick
    decreases-loop-tick
    overflow_mul-end
    (λ c κs. search rules)
    loop-tick-init
    slice_bounds-put_tick-end
    slice_bounds-put_tick-end-in-loop-tick
    put_tick-next-requires
    loop-tick-smaller
    loop-tick-preserved
    shape_of-out
    returns)
