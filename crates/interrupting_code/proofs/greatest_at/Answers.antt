-- `greatest_at` meets its contract: each interrupt's term comes to what its processor's ask, and the larger of that and of the greatest so
-- far is the greatest. Assumes nothing.
use Prim.Native.Nat.{ℕ, ◌+◌, ◌*◌, ◌^◌, ◌≤◌, ◌<◌}
use mathlib.Core.Path.{◌≡◌, refl, ap, ◌∙◌}
use native.Mathlib.Omega.{arith}
use lib.ListN.{length}
use Rattle.interrupting.specs.Interrupts.{Numbered, Bound, bound_at, bounds_of, behind, interrupts_of, interrupt_demand, greatest_of_all, highest}
use Rattle.interrupting.proofs.GreatestLaws.{term, interrupt_own}
use Rattle.interrupting.proofs.SlicesLaws.{bounds_next, its_numbered, its_highest, its_there, its_fits, interrupt_room}
use Rattle.interrupting.proofs.ReachedLaws.{reached_none, reached_new, reached_same, reached_next}
use Rattle.interrupting_code.proofs.greatest_at.Goals as goal
use Rattle.interrupting_code.proofs.greatest_at.Goals.{In-loop-i, Joined-processor-its, then-processor-its, else-processor-its}

-- this turn's interrupt stands in the slice, at places that fit
reads : (c : In-loop-i) → 3 * c.args.n + 4 * c.loop-i.i + 4 ≤ length c.args.loads.now
reads c = its_there c.args.loads.now c.args.n c.requires.0 c.loop-i.i c.loop-i-test.true

fits : (c : In-loop-i) → 3 * c.args.n + 4 * c.loop-i.i + 4 ≤ 2 ^ 11
fits c = its_fits c.args.loads.now c.args.n c.requires.0 c.loop-i.i c.loop-i-test.true

-- its processor is the highest so far
abbrev its : Joined-processor-its → Bound
its c = bound_at c.args.loads.now (3 * c.args.n) c.loop-i.i

numbered : (c : Joined-processor-its) → Numbered (its c)
numbered c = its_numbered c.args.loads.now c.args.n c.requires.0 c.loop-i.i c.loop-i-test.true

top : (c : Joined-processor-its) → highest (bounds_of c.args.loads.now (3 * c.args.n) c.loop-i.i) ≤ (its c).processor
top c = its_highest c.args.loads.now c.args.n c.requires.0 c.loop-i.i c.loop-i-test.true

pub overflow_mul-from : goal.overflow_mul-from
overflow_mul-from c = omega (arith, c.requires.0.few)

pub overflow_sub-count : goal.overflow_sub-count
overflow_sub-count c = omega (arith, c.requires.0.loads.there)

pub loop-i-init : goal.loop-i-init
unfolding bounds_of
loop-i-init c = reached_none c.args.t

pub overflow_mul-at : goal.overflow_mul-at
overflow_mul-at c = omega (arith, fits (goal.at.overflow_mul-at c).In-loop-i)

pub overflow_add-at : goal.overflow_add-at
overflow_add-at c = omega (arith, fits (goal.at.overflow_add-at c).In-loop-i)

pub bounds-loads-at : goal.bounds-loads-at
bounds-loads-at c = omega (arith, reads (goal.at.bounds-loads-at c).In-loop-i)

pub overflow_add-at-in-loop-i : goal.overflow_add-at-in-loop-i
overflow_add-at-in-loop-i c = omega (arith, fits (goal.at.overflow_add-at-in-loop-i c).In-loop-i)

pub bounds-loads-at-in-loop-i : goal.bounds-loads-at-in-loop-i
bounds-loads-at-in-loop-i c = omega (arith, reads (goal.at.bounds-loads-at-in-loop-i c).In-loop-i)

pub overflow_add-at-in-loop-i-2 : goal.overflow_add-at-in-loop-i-2
overflow_add-at-in-loop-i-2 c = omega (arith, fits (goal.at.overflow_add-at-in-loop-i-2 c).In-loop-i)

pub bounds-loads-at-in-loop-i-2 : goal.bounds-loads-at-in-loop-i-2
bounds-loads-at-in-loop-i-2 c = omega (arith, reads (goal.at.bounds-loads-at-in-loop-i-2 c).In-loop-i)

pub overflow_add-at-in-loop-i-3 : goal.overflow_add-at-in-loop-i-3
overflow_add-at-in-loop-i-3 c = omega (arith, fits (goal.at.overflow_add-at-in-loop-i-3 c).In-loop-i)

pub bounds-loads-at-in-loop-i-3 : goal.bounds-loads-at-in-loop-i-3
bounds-loads-at-in-loop-i-3 c = omega (arith, reads (goal.at.bounds-loads-at-in-loop-i-3 c).In-loop-i)

-- where the two ways meet: the processor is this turn's, and the sum what its interrupts asked so far
based : (c : Joined-processor-its) →
    let b = its c in
    (c.if-processor-its.processor ≡ b.processor) ×
    (c.if-processor-its.sum ≡ interrupt_demand b.processor (bounds_of c.args.loads.now (3 * c.args.n) c.loop-i.i) c.args.t)
based c =
    let p = (its c).processor in
    let old = c.loop-i.invariant in
    (elim c.if-processor-its.branch [
      | then-processor-its w ↦ let new : c.loop-i.processor < p = omega (arith, w.if-processor-its.true) in
          (w.processor-is, w.sum-is ∙ reached_new old p new)
      | else-processor-its w ↦ let no-new : p ≤ c.loop-i.processor = omega (arith, w.if-processor-its.false) in
          let same = reached_same old p no-new (top c) in
          (w.processor-is ∙ same.0, w.sum-is ∙ same.1)
    ])

-- with its term added it has room
room : (c : Joined-processor-its) → c.if-processor-its.sum + term (its c).load c.args.t < 2 ^ 63
room c =
    let a = c.args in
    let i = c.loop-i.i in
    let b = its c in
    omega (
      arith,
      (based c).1,
      interrupt_own b.processor (bounds_of a.loads.now (3 * a.n) i) b a.t refl,
      ap (λ bs. interrupt_demand b.processor bs a.t) (bounds_next a.loads.now (3 * a.n) i),
      interrupt_room a.loads.now a.n c.requires.0 b.processor (i + 1) a.t (omega (arith, c.loop-i-test.true)) c.requires.1,
    )

pub term_at-sum-requires : goal.term_at-sum-requires
term_at-sum-requires c =
    let met = (goal.at.term_at-sum-requires c).Joined-processor-its in
    record { le_period = (omega (arith, (numbered met).sound), c.requires.1); t_bound = omega (arith, room met) }

pub overflow_add-sum : goal.overflow_add-sum
overflow_add-sum c = omega (arith, c.term_at-sum.ensures, room (goal.at.overflow_add-sum c).Joined-processor-its)

pub loop-i-preserved : goal.loop-i-preserved
loop-i-preserved c =
    let met = (goal.at.loop-i-preserved c).Joined-processor-its in
    let a = c.args in
    let i = c.loop-i.i in
    let b = its met in
    rw (bounds_next a.loads.now (3 * a.n) i, (based met).0)
    (reached_next c.loop-i.invariant b c.if-processor-its.sum _ _ (numbered met).there (top met) (based met).1
    (omega (arith, c.term_at-sum.ensures)) (omega arith))

pub returns : goal.returns
unfolding interrupts_of
returns c =
    let a = c.args in
    let e : c.loop-i.i ≡ behind a.loads.now a.n = omega arith in
    c.loop-i.invariant.greatest ∙ ap (λ (k : ℕ). greatest_of_all (bounds_of a.loads.now (3 * a.n) k) a.t) e
