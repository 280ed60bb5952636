-- `last_of_loads` meets its contract: one load more has its last step, or the larger of that and of the last so far.
-- Assumes nothing.
use Prim.Native.Nat.{ℕ, max}
use mathlib.Core.Path.{◌≡◌, ap, ap₂, sym, ◌∙◌}
use mathlib.Core.List.{List, []}
use native.Mathlib.Omega.{arith}
use Rattle.demand.specs.Load.{each, Load, Sound, load_at, loads_of}
use Rattle.demand.specs.Demand.{demand}
use Rattle.demand.proofs.Demand.{demand_nil, every_first, every_at, each_next}
use Rattle.steps.proofs.RisenLaws.{last_of, last_nothing, last_snoc}
use Rattle.steps_code.proofs.last_of_loads.Goals as goal

pub loop-i-init : goal.loop-i-init
unfolding each
loop-i-init c = sym (last_nothing (demand []) c.args.hi demand_nil)

pub overflow_mul-at : goal.overflow_mul-at
overflow_mul-at c = omega (arith, c.requires.few)

pub overflow_add-at : goal.overflow_add-at
overflow_add-at c = omega (arith, c.requires.few)

pub overflow_add-at-in-loop-i : goal.overflow_add-at-in-loop-i
overflow_add-at-in-loop-i c = omega (arith, c.requires.few)

pub last_due-requires : goal.last_due-requires
last_due-requires c =
    let sound = every_at (load_at c.args.loads.now) Sound c.args.n c.loop-i-test.true c.requires.sound in
    (sound.due, sound.constrained)

pub loop-i-preserved : goal.loop-i-preserved
loop-i-preserved c =
    let a = c.args in
    let i = c.loop-i.i in
    let earlier = every_first (load_at a.loads.now) Sound a.n (omega arith) c.requires.sound in
    let its = every_at (load_at a.loads.now) Sound a.n c.loop-i-test.true c.requires.sound in
    c.max-last.ensures ∙ ap₂ max c.loop-i.invariant c.last_due.ensures ∙
    sym
    (ap (λ (ls : List Load). last_of (demand ls) a.hi) (each_next (load_at a.loads.now) i) ∙
    last_snoc (loads_of a.loads.now i) (load_at a.loads.now i) a.hi earlier its)

pub returns : goal.returns
returns c =
    let a = c.args in
    let e : c.loop-i.i ≡ a.n = omega arith in
    c.loop-i.invariant ∙ ap (λ (i : ℕ). last_of (demand (loads_of a.loads.now i)) a.hi) e
