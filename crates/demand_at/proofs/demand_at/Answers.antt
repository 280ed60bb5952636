-- `demand_at` meets its contract: each load's term is added, and the sum has room.
-- Assumes nothing.
use Prim.Native.Nat.{ℕ, ◌+◌, ◌*◌, ◌^◌, ◌<◌}
use mathlib.Core.Path.{◌≡◌, refl, ap, ◌∙◌}
use native.Mathlib.Omega.{arith}
use Rattle.demand.specs.Load.{each, Sound, load_at, loads_of}
use Rattle.demand.specs.Demand.{jobs, demand}
use Rattle.demand.proofs.Demand.{every_at, demand_next, demand_room}
use Rattle.demand_at.proofs.demand_at.Goals as goal
use Rattle.demand_at.proofs.demand_at.Goals.{In-loop-i}

-- the load of this turn is sound, and the sum that follows has room
here : (c : In-loop-i) → Sound (load_at c.args.loads.now c.loop-i.i)
here c = every_at (load_at c.args.loads.now) Sound c.args.n c.loop-i-test.true c.requires.0.sound

room : (c : In-loop-i) →
    let l = load_at c.args.loads.now c.loop-i.i in
    c.loop-i.sum + l.cost * jobs l.deadline l.period c.args.t < 2 ^ 63
room c =
    let a = c.args in
    let i = c.loop-i.i in
    omega (
      arith,
      c.loop-i.invariant,
      demand_next a.loads.now i a.t,
      demand_room a.loads.now a.n (i + 1) a.t c.requires.0 (omega arith) c.requires.1,
    )

pub loop-i-init : goal.loop-i-init
unfolding each demand
loop-i-init c = refl

pub overflow_mul-at : goal.overflow_mul-at
overflow_mul-at c = omega (arith, c.requires.0.few)

pub overflow_add-at : goal.overflow_add-at
overflow_add-at c = omega (arith, c.requires.0.few)

pub overflow_add-at-in-loop-i : goal.overflow_add-at-in-loop-i
overflow_add-at-in-loop-i c = omega (arith, c.requires.0.few)

pub term_at-sum-requires : goal.term_at-sum-requires
term_at-sum-requires c =
    let turn = (goal.at.term_at-sum-requires c).In-loop-i in
    record { le_period = (omega (arith, here turn), c.requires.1); t_bound = omega (arith, room turn) }

pub overflow_add-sum : goal.overflow_add-sum
overflow_add-sum c = omega (arith, c.term_at-sum.ensures, room (goal.at.overflow_add-sum c).In-loop-i)

pub loop-i-preserved : goal.loop-i-preserved
loop-i-preserved c = omega (arith, c.term_at-sum.ensures, c.loop-i.invariant, demand_next c.args.loads.now c.loop-i.i c.args.t)

pub returns : goal.returns
returns c =
    let a = c.args in
    let e : c.loop-i.i ≡ a.n = omega arith in
    c.loop-i.invariant ∙ ap (λ (i : ℕ). demand (loads_of a.loads.now i) a.t) e
