use Rattle.std.proofs.Common.{ℕ, ◌≡◌, ◌+◌, ◌-◌, ◌*◌, ◌≤◌, ◌<◌, ◌∙◌, refl, sym, ap, subst, length, arith}
use lib.Seq.{length-take-le}
use Rattle.digits.proofs.Stored.{stored_nil}
use Rattle.interrupting.specs.Interrupts.{bound_numbers}
use Rattle.tasks.specs.declared.set.Interrupts.{Interrupts}
use Rattle.tasks.specs.Set.{most_interrupts, counted}
use Rattle.byprocessor.specs.Interrupts.{by_processor, interrupt_numbers}
use Rattle.byprocessor.proofs.ReachLaws.{Grouped, Down, down_none, down_all, down_other, down_room, down_next}
use Rattle.byprocessor_code.proofs.by_processor.Goals as goal
use Rattle.byprocessor_code.proofs.by_processor.Goals.{Then-interrupt-p, then-interrupt-p, else-interrupt-p}

-- as many as are counted
all : (is : Interrupts) → length is.each ≡ most_interrupts → is.count ≤ most_interrupts → length (counted is) ≡ is.count
all is room few = length-take-le is.count is.each (omega arith)

-- one of the processor has room
space : (c : Then-interrupt-p) → c.loop-interrupt.at + 4 ≤ 4 * most_interrupts
space c =
    let is = c.args.interrupts in
    let room : length is.each ≡ most_interrupts = omega arith in
    let one_of : c.loop-interrupt.interrupt-index < length (counted is) = omega (arith, all is room c.requires.few) in
    down_room one_of c.loop-interrupt.invariant refl c.if-interrupt-p.true (omega (arith, all is room c.requires.few))

pub loop-p-init : goal.loop-p-init
unfolding by_processor interrupt_numbers bound_numbers
loop-p-init c = (omega arith, record { place = refl; filled = sym (stored_nil _ _) })

pub loop-interrupt-init : goal.loop-interrupt-init
loop-interrupt-init c =
    let l = c.loop-p in
    let next : l.p - 1 + 1 ≡ l.p = omega arith in
    subst (λ (p : ℕ). Down p (counted c.args.interrupts) 0 l.at l.numbers) next (down_none l.invariant.1)

pub offset_bounds-numbers-at : goal.offset_bounds-numbers-at
offset_bounds-numbers-at c = omega (arith, space (goal.at.offset_bounds-numbers-at c).Then-interrupt-p)

pub bounds-numbers-at : goal.bounds-numbers-at
bounds-numbers-at c = omega (arith, space (goal.at.bounds-numbers-at c).Then-interrupt-p)

pub offset_bounds-numbers-at-then-interrupt-p : goal.offset_bounds-numbers-at-then-interrupt-p
offset_bounds-numbers-at-then-interrupt-p c = omega (arith, space (goal.at.offset_bounds-numbers-at-then-interrupt-p c).Then-interrupt-p)

pub bounds-numbers-at-then-interrupt-p : goal.bounds-numbers-at-then-interrupt-p
bounds-numbers-at-then-interrupt-p c = omega (arith, space (goal.at.bounds-numbers-at-then-interrupt-p c).Then-interrupt-p)

pub offset_bounds-numbers-at-then-interrupt-p-2 : goal.offset_bounds-numbers-at-then-interrupt-p-2
offset_bounds-numbers-at-then-interrupt-p-2 c = omega (arith, space (goal.at.offset_bounds-numbers-at-then-interrupt-p-2 c).Then-interrupt-p)

pub bounds-numbers-at-then-interrupt-p-2 : goal.bounds-numbers-at-then-interrupt-p-2
bounds-numbers-at-then-interrupt-p-2 c = omega (arith, space (goal.at.bounds-numbers-at-then-interrupt-p-2 c).Then-interrupt-p)

pub offset_bounds-numbers-at-then-interrupt-p-3 : goal.offset_bounds-numbers-at-then-interrupt-p-3
offset_bounds-numbers-at-then-interrupt-p-3 c = omega (arith, space (goal.at.offset_bounds-numbers-at-then-interrupt-p-3 c).Then-interrupt-p)

pub bounds-numbers-at-then-interrupt-p-3 : goal.bounds-numbers-at-then-interrupt-p-3
bounds-numbers-at-then-interrupt-p-3 c = omega (arith, space (goal.at.bounds-numbers-at-then-interrupt-p-3 c).Then-interrupt-p)

pub overflow_add-at : goal.overflow_add-at
overflow_add-at c = omega (arith, space (goal.at.overflow_add-at c).Then-interrupt-p)

pub loop-interrupt-preserved : goal.loop-interrupt-preserved
loop-interrupt-preserved c =
    let l = c.loop-interrupt in
    let is = c.args.interrupts in
    let room : length is.each ≡ most_interrupts = omega arith in
    let one_of : l.interrupt-index < length (counted is) = omega (arith, all is room c.requires.few) in
    let few : length (counted is) ≤ most_interrupts = omega (arith, all is room c.requires.few) in
    elim c.if-interrupt-p.branch [
      | then-interrupt-p w ↦ rw (w.numbers-is, w.at-is) (down_next one_of l.invariant refl w.if-interrupt-p.true few)
      | else-interrupt-p w ↦ rw (w.numbers-is, w.at-is) (down_other one_of l.invariant refl w.if-interrupt-p.false)
    ]

pub loop-p-preserved : goal.loop-p-preserved
loop-p-preserved c =
    let l = c.loop-interrupt in
    let is = c.args.interrupts in
    let room : length is.each ≡ most_interrupts = omega arith in
    let end : l.interrupt-index ≡ length (counted is) = omega (arith, all is room c.requires.few) in
    let next : c.loop-p.p ≡ c.loop-p.p + 1 - 1 = omega arith in
    (omega arith, subst (λ (p : ℕ). Grouped p (counted is) l.at l.numbers) next (down_all end l.invariant))

pub returns : goal.returns
returns c =
    let none : c.loop-p.p - 1 ≡ c.args.m = omega arith in
    c.loop-p.invariant.1.filled ∙ ap (λ (p : ℕ). interrupt_numbers (by_processor p (counted c.args.interrupts))) none

pub returns-2 : goal.returns-2
returns-2 c =
    let l = c.loop-interrupt in
    let is = c.args.interrupts in
    let room : length is.each ≡ most_interrupts = omega arith in
    let end : l.interrupt-index ≡ length (counted is) = omega (arith, all is room c.requires.few) in
    let last : c.loop-p.p ≡ c.args.m = omega arith in
    let grouped : Grouped c.loop-p.p (counted is) l.at l.numbers = down_all end l.invariant in
    grouped.filled ∙ ap (λ (p : ℕ). interrupt_numbers (by_processor p (counted is))) last
