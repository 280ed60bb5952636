-- A processor whose time is over has its line put and carries what begins; one that runs on carries what it did.
-- Assumes nothing.
use Rattle.std.proofs.Common.{ℕ, suc, min, ◌≡◌, ◌+◌, ◌*◌, ◌≤◌, ◌<◌, length, take, drop, get_or, refl, sym, ap, ap₂, ◌∙◌, arith}
use native.Mathlib.Numerals.{add-one}
use lib.Seq.{get_or-set_same, drop-set-lt}
use Rattle.reserves.specs.Reserves.{ring_processors}
use Rattle.turn.specs.Stretch.{Laid}
use Rattle.switchline.specs.Before.{until_before}
use Rattle.ticklines.specs.Walk.{least_of}
use Rattle.switchline.proofs.LaidLaws.{laid_slotted}
use Rattle.ticklines.proofs.LeastLaws.{least_none, least_next}
use Rattle.ticklines.proofs.TickLaws.{Walked, walked_none, walked_room, walked_over, walked_on, walked_all, untils_there, until_reached}
use Rattle.ticklines.proofs.put_tick.Goals as goal
use Rattle.ticklines.proofs.put_tick.Goals.{In-loop-i, Then-end-tick, Joined-end-tick, then-end-tick, else-end-tick}

pub loop-i-init : goal.loop-i-init
loop-i-init c = (walked_none _ _ c.requires.carried, sym (least_none _ _), refl, refl)

-- the next processor of the ring
module _ (c : In-loop-i) where
  laid : Laid c.args.turn c.args.reserves.now
  laid = c.requires.laid.0

  few : c.args.turn.ring ≤ ring_processors c.args.turn.slot (take c.args.turn.servers c.args.reserves.now)
  few = omega (arith, laid.ring)

  below : c.loop-i.i < c.args.turn.ring
  below = omega (arith, c.loop-i-test.true)

  until_placed : c.loop-i.i < length c.loop-i.until
  until_placed = untils_there (laid_slotted laid) few c.loop-i.invariant.0 below

  -- its time is not over before the tick
  ahead : c.args.tick ≤ get_or c.loop-i.until c.loop-i.i 0
  ahead = until_reached (laid_slotted laid) few c.loop-i.invariant.0 below

-- the place of its line
pub put_switch-put-requires-clause-row_value : goal.put_switch-put-requires-clause-row_value
put_switch-put-requires-clause-row_value c =
    let l = (goal.at.put_switch-put-requires-clause-row_value c).In-loop-i in
    let w = c.loop-i.invariant.0 in
    let over : get_or c.loop-i.until c.loop-i.i 0 ≡ c.args.tick = omega (arith, c.if-end-tick.true, ahead l) in
    let room = walked_room (laid_slotted (laid l)) (few l) w (below l) over c.requires.ring_bound in
    (c.requires.laid.2, omega (arith, room, w.same))

-- past its test the processor is carried past the tick, and its line is put if it switches
passed : (c : Joined-end-tick) →
    Walked c.args.turn.slot (take c.args.turn.servers c.args.reserves.now) c.args.tick c.args.turn.ring c.args.out.now c.args.at c.if-end-tick.out c.if-end-tick.servers c.if-end-tick.until c.if-end-tick.next (suc c.loop-i.i)
passed c =
    let l = (goal.at.Joined-end-tick c).In-loop-i in
    let now = c.loop-i in
    let slotted = laid_slotted (laid l) in
    (elim c.if-end-tick.branch [
      | then-end-tick w ↦
          let over : get_or now.until now.i 0 ≡ c.args.tick = omega (arith, w.if-end-tick.true, ahead l) in
          rw (w.out-is, w.servers-is, w.until-is, w.next-is) (walked_over slotted (few l) now.invariant.0 (below l) over c.requires.ring_bound (add-one now.i) w.put_switch-put.ensures.value w.put_switch-put.ensures.out_after w.put_switch-put.auto.out)
      | else-end-tick w ↦
          let on : get_or now.until now.i 0 ≡ c.args.tick → ⊥ = λ (e : get_or now.until now.i 0 ≡ c.args.tick). omega (arith, w.if-end-tick.false) in
          rw (w.out-is, w.servers-is, w.until-is, w.next-is) (walked_on slotted (few l) now.invariant.0 (below l) on)
    ])

-- what stands behind the ring processors' places is kept
kept : (c : Joined-end-tick) →
    (drop c.args.turn.ring c.if-end-tick.servers ≡ drop c.args.turn.ring c.args.servers.now)
    × (drop c.args.turn.ring c.if-end-tick.until ≡ drop c.args.turn.ring c.args.until.now)
kept c =
    let now = c.loop-i in
    (elim c.if-end-tick.branch [
      | then-end-tick w ↦ rw (w.servers-is, w.until-is) (
        drop-set-lt _ now.servers now.i _ (omega (arith, c.loop-i-test.true)) ∙ now.invariant.2,
        drop-set-lt _ now.until now.i _ (omega (arith, c.loop-i-test.true)) ∙ now.invariant.3,
      )
      | else-end-tick w ↦ rw (w.servers-is, w.until-is) (now.invariant.2, now.invariant.3)
    ])

-- and until when its time runs is told
ends : (c : Joined-end-tick) → c.if-end-tick.end ≡ until_before c.args.turn.slot (take c.args.turn.servers c.args.reserves.now) (suc c.loop-i.i) (suc c.args.tick)
ends c =
    let now = c.loop-i in
    let placed = until_placed (goal.at.Joined-end-tick c).In-loop-i in
    let here : c.if-end-tick.end ≡ get_or c.if-end-tick.until now.i 0 =
    (elim c.if-end-tick.branch [
      | then-end-tick w ↦ rw (w.until-is, w.end-is) (sym (get_or-set_same now.until now.i _ 0 placed))
      | else-end-tick w ↦ rw (w.until-is, w.end-is) refl
    ])
    in
    here ∙ (passed c).past.until now.i (omega arith) (omega arith)

-- the least end with the processor's own
lower : (f : ℕ → ℕ) (most i least end : ℕ) {lesser : ℕ} → least ≡ least_of f most i → end ≡ f (suc i) → lesser ≡ min least end → lesser ≡ least_of f most (i + 1)
lower f most i least end l e m = m ∙ ap₂ min l e ∙ sym (least_next f most i) ∙ ap (least_of f most) (sym (add-one i))

pub loop-i-preserved : goal.loop-i-preserved
loop-i-preserved c =
    let j = (goal.at.loop-i-preserved c).Joined-end-tick in
    let k = kept j in
    let walked = passed j in (
      rw (add-one c.loop-i.i) walked,
      lower _ _ c.loop-i.i c.loop-i.least c.if-end-tick.end c.loop-i.invariant.1 (ends j) (omega arith),
      k.0,
      k.1,
    )

pub returns : goal.returns
returns c =
    let r = c.args.turn.ring in
    let past : r ≤ c.loop-i.i = omega (arith, c.loop-i-test.false) in
    let w = walked_all c.loop-i.invariant.0 past in
    let e : c.loop-i.i ≡ r = omega (arith, past, c.loop-i.invariant.0.within) in
    record {
      value =
          ap₂ (λ (a t : ℕ). record { at = a; tick = t }) w.there
          (c.loop-i.invariant.1 ∙ ap (least_of (λ p. until_before c.args.turn.slot (take c.args.turn.servers c.args.reserves.now) p (suc c.args.tick)) (r * c.args.turn.slot)) e);
      out_after = w.holds;
      carried_2 = w.past;
      servers_unchanged = (c.loop-i.invariant.2, c.loop-i.invariant.3);
    }
