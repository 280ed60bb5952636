-- `first_asked` meets its contract. Assumes nothing.
use Prim.Native.Nat.{ℕ, ◌+◌, ◌*◌}
use mathlib.Core.Path.{◌≡◌, subst}
use native.Mathlib.Omega.{arith}
use Rattle.demand.specs.Load.{loads_of}
use Rattle.demand.specs.Demand.{demand}
use Rattle.interrupting.specs.Interrupts.{bound_at, bounds_of, behind, interrupts_of, greatest_of_all, asked}
use Rattle.interrupting.proofs.SlicesLaws.{bounds_next, its_numbered, its_highest, its_there, its_fits}
use Rattle.closeness.specs.Begins.{Begins}
use Rattle.closeness.proofs.BeginsLaws.{begins_alone, begins_next}
use Rattle.closeness_code.proofs.first_asked.Goals as goal

pub overflow_mul-from : goal.overflow_mul-from
overflow_mul-from c = omega (arith, c.requires.interrupted.few)

pub overflow_sub-count : goal.overflow_sub-count
overflow_sub-count c = omega (arith, c.requires.interrupted.loads.there)

pub loop-i-init : goal.loop-i-init
unfolding bounds_of
loop-i-init c = begins_alone (loads_of c.args.loads.now c.args.n) c.requires.begins

pub overflow_mul-at : goal.overflow_mul-at
overflow_mul-at c = omega (arith, its_fits c.args.loads.now c.args.n c.requires.interrupted c.loop-i.i c.loop-i-test.true)

pub overflow_add-at : goal.overflow_add-at
overflow_add-at c = omega (arith, its_fits c.args.loads.now c.args.n c.requires.interrupted c.loop-i.i c.loop-i-test.true)

pub overflow_add-at-in-loop-i : goal.overflow_add-at-in-loop-i
overflow_add-at-in-loop-i c = omega (arith, its_fits c.args.loads.now c.args.n c.requires.interrupted c.loop-i.i c.loop-i-test.true)

pub bounds-loads-at : goal.bounds-loads-at
bounds-loads-at c = omega (arith, its_there c.args.loads.now c.args.n c.requires.interrupted c.loop-i.i c.loop-i-test.true)

pub loop-i-preserved : goal.loop-i-preserved
loop-i-preserved c =
    let a = c.args in
    let i = c.loop-i.i in
    let within = c.loop-i-test.true in
    let its = its_numbered a.loads.now a.n c.requires.interrupted i within in
    let next =
    begins_next (bounds_of a.loads.now (3 * a.n) i) (bound_at a.loads.now (3 * a.n) i) its.sound its.there
    (its_highest a.loads.now a.n c.requires.interrupted i within) (loads_of a.loads.now a.n) c.loop-i.first c.loop-i.invariant in
    rw (bounds_next a.loads.now (3 * a.n) i, c.sooner-first.ensures) next

pub returns : goal.returns
unfolding asked interrupts_of
returns c =
    let a = c.args in
    let e : c.loop-i.i ≡ behind a.loads.now a.n = omega arith in
    subst (λ (k : ℕ). Begins (λ t. demand (loads_of a.loads.now a.n) t + greatest_of_all (bounds_of a.loads.now (3 * a.n) k) t) c.loop-i.first) e
    c.loop-i.invariant
