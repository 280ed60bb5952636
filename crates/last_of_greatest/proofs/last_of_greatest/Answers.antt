-- `last_of_greatest` meets its contract: each interrupt's term and its last deadline come to its processor's, and the greater of that and of
-- what was before decides. Assumes nothing.
use Prim.Native.Nat.{ℕ, ◌+◌, ◌*◌, ◌^◌, ◌≤◌, ◌<◌}
use mathlib.Core.Path.{◌≡◌, refl, ap, ◌∙◌}
use mathlib.Core.List.{List}
use native.Mathlib.Omega.{arith}
use lib.ListN.{length}
use Rattle.demand.specs.Load.{Sound}
use Rattle.interrupting.specs.Interrupts.{Bound, EveryBound, Numbered, bound_at, bounds_of, behind, interrupts_of, interrupt_demand, greatest_of_all, highest}
use Rattle.interrupting.proofs.BoundLaws.{bounds_map}
use Rattle.interrupting.proofs.GreatestLaws.{term, interrupt_own}
use Rattle.interrupting.proofs.SlicesLaws.{bounds_next, first_numbered, its_numbered, its_highest, its_there, its_fits, interrupt_room}
use Rattle.interrupting.proofs.ReachedLaws.{reached_new, reached_same}
use Rattle.steps.proofs.RisenLaws.{last_of, risen_none, risen_new, risen_same, risen_next}
use Rattle.last_of_greatest.proofs.last_of_greatest.Goals as goal
use Rattle.last_of_greatest.proofs.last_of_greatest.Goals.{In-loop-i, Joined-processor-its, then-processor-its, else-processor-its}

-- this turn's interrupt stands in the slice, at places that fit
reads : (c : In-loop-i) → 3 * c.args.n + 4 * c.loop-i.i + 4 ≤ length c.args.loads.now
reads c = its_there c.args.loads.now c.args.n c.requires.0 c.loop-i.i c.loop-i-test.true

fits : (c : In-loop-i) → 3 * c.args.n + 4 * c.loop-i.i + 4 ≤ 2 ^ 11
fits c = its_fits c.args.loads.now c.args.n c.requires.0 c.loop-i.i c.loop-i-test.true

-- it is sound, as those before it are, and its processor is the highest so far
abbrev its : Joined-processor-its → Bound
its c = bound_at c.args.loads.now (3 * c.args.n) c.loop-i.i

abbrev earlier : Joined-processor-its → List Bound
earlier c = bounds_of c.args.loads.now (3 * c.args.n) c.loop-i.i

numbered : (c : Joined-processor-its) → Numbered (its c)
numbered c = its_numbered c.args.loads.now c.args.n c.requires.0 c.loop-i.i c.loop-i-test.true

top : (c : Joined-processor-its) → highest (earlier c) ≤ (its c).processor
top c = its_highest c.args.loads.now c.args.n c.requires.0 c.loop-i.i c.loop-i-test.true

sound-before : (c : Joined-processor-its) → EveryBound (λ (b : Bound). Sound b.load) (earlier c)
sound-before c =
    bounds_map Numbered (λ (b : Bound). Sound b.load) (earlier c) (λ b e. e.sound)
    (first_numbered c.args.loads.now c.args.n c.requires.0 c.loop-i.i (omega (arith, c.loop-i-test.true)))

-- where the two ways meet: the processor is this turn's, and sum and last step are those of its interrupts so far
based : (c : Joined-processor-its) →
    let p = (its c).processor in
    (c.if-processor-its.processor ≡ p) × (c.if-processor-its.sum ≡ interrupt_demand p (earlier c) c.args.hi) ×
    (c.if-processor-its.last ≡ last_of (interrupt_demand p (earlier c)) c.args.hi)
based c =
    let p = (its c).processor in
    let old = c.loop-i.invariant in
    (elim c.if-processor-its.branch [
      | then-processor-its w ↦ let new : c.loop-i.processor < p = omega (arith, w.if-processor-its.true) in
          (w.processor-is, w.sum-is ∙ reached_new old.reached p new, w.last-is ∙ risen_new old p new)
      | else-processor-its w ↦ let no-new : p ≤ c.loop-i.processor = omega (arith, w.if-processor-its.false) in
          let same = reached_same old.reached p no-new (top c) in
          (w.processor-is ∙ same.0, w.sum-is ∙ same.1, w.last-is ∙ risen_same old p no-new (top c))
    ])

-- with its term added the sum has room
room : (c : Joined-processor-its) → c.if-processor-its.sum + term (its c).load c.args.hi < 2 ^ 63
room c =
    let a = c.args in
    let i = c.loop-i.i in
    let b = its c in
    omega (
      arith,
      (based c).1,
      interrupt_own b.processor (earlier c) b a.hi refl,
      ap (λ bs. interrupt_demand b.processor bs a.hi) (bounds_next a.loads.now (3 * a.n) i),
      interrupt_room a.loads.now a.n c.requires.0 b.processor (i + 1) a.hi (omega (arith, c.loop-i-test.true)) c.requires.1,
    )

pub overflow_mul-from : goal.overflow_mul-from
overflow_mul-from c = omega (arith, c.requires.0.few)

pub overflow_sub-count : goal.overflow_sub-count
overflow_sub-count c = omega (arith, c.requires.0.loads.there)

pub loop-i-init : goal.loop-i-init
unfolding bounds_of
loop-i-init c = risen_none c.args.hi

pub overflow_mul-at : goal.overflow_mul-at
overflow_mul-at c = omega (arith, fits (goal.at.overflow_mul-at c).In-loop-i)

pub overflow_add-at : goal.overflow_add-at
overflow_add-at c = omega (arith, fits (goal.at.overflow_add-at c).In-loop-i)

pub bounds-loads-at : goal.bounds-loads-at
bounds-loads-at c = omega (arith, reads (goal.at.bounds-loads-at c).In-loop-i)

pub overflow_add-d : goal.overflow_add-d
overflow_add-d c = omega (arith, fits (goal.at.overflow_add-d c).In-loop-i)

pub bounds-loads-at-in-loop-i : goal.bounds-loads-at-in-loop-i
bounds-loads-at-in-loop-i c = omega (arith, reads (goal.at.bounds-loads-at-in-loop-i c).In-loop-i)

pub overflow_add-period : goal.overflow_add-period
overflow_add-period c = omega (arith, fits (goal.at.overflow_add-period c).In-loop-i)

pub bounds-loads-at-in-loop-i-2 : goal.bounds-loads-at-in-loop-i-2
bounds-loads-at-in-loop-i-2 c = omega (arith, reads (goal.at.bounds-loads-at-in-loop-i-2 c).In-loop-i)

pub overflow_add-at-in-loop-i : goal.overflow_add-at-in-loop-i
overflow_add-at-in-loop-i c = omega (arith, fits (goal.at.overflow_add-at-in-loop-i c).In-loop-i)

pub bounds-loads-at-in-loop-i-3 : goal.bounds-loads-at-in-loop-i-3
bounds-loads-at-in-loop-i-3 c = omega (arith, reads (goal.at.bounds-loads-at-in-loop-i-3 c).In-loop-i)

pub term_at-sum-requires : goal.term_at-sum-requires
term_at-sum-requires c =
    let met = (goal.at.term_at-sum-requires c).Joined-processor-its in
    record { le_period = (omega (arith, (numbered met).sound), c.requires.1); t_bound = omega (arith, room met) }

pub overflow_add-sum : goal.overflow_add-sum
overflow_add-sum c = omega (arith, c.term_at-sum.ensures, room (goal.at.overflow_add-sum c).Joined-processor-its)

pub last_due-requires : goal.last_due-requires
last_due-requires c =
    let sound = (numbered (goal.at.last_due-requires c).Joined-processor-its).sound in
    (sound.due, sound.constrained)

pub loop-i-preserved : goal.loop-i-preserved
loop-i-preserved c =
    let met = (goal.at.loop-i-preserved c).Joined-processor-its in
    let b = its met in
    let base = based met in
    rw (bounds_next c.args.loads.now (3 * c.args.n) c.loop-i.i, base.0)
    (risen_next c.loop-i.invariant (sound-before met) b (numbered met).sound c.if-processor-its.sum c.if-processor-its.last _ _ _ _
    (numbered met).there (top met) base.1 base.2
    (omega (arith, c.term_at-sum.ensures))
    (omega (arith, c.last_due.ensures))
    (omega arith)
    c.last_of_greater-risen.ensures)

pub returns : goal.returns
unfolding interrupts_of
returns c =
    let a = c.args in
    let e : c.loop-i.i ≡ behind a.loads.now a.n = omega arith in
    c.loop-i.invariant.rises ∙ ap (λ (k : ℕ). last_of (greatest_of_all (bounds_of a.loads.now (3 * a.n) k)) a.hi) e
