-- `multiple_of` meets its contract: each step goes on to the multiple of one number more, or stops past the limit.
-- Assumes nothing.
use Prim.Native.Nat.{◌<◌}
use mathlib.Core.Path.{refl, sym, ◌∙◌}
use native.Mathlib.Omega.{arith}
use Rattle.wholes.specs.Multiple.{least_multiple_of}
use Rattle.members.specs.Server.{spaced}
use Rattle.members.proofs.HorizonLaws.{stays_past, goes_on, stops, all_passed}
use Rattle.multiple_of.proofs.multiple_of.Goals as goal

pub returns-then-limit-first : goal.returns-then-limit-first
unfolding spaced least_multiple_of
returns-then-limit-first c =
    let past : c.args.limit < c.args.first = omega (arith, c.if-limit-first.true) in
    stays_past c.requires c.args.limit {k = 0} (omega arith) past

pub loop-i-init : goal.loop-i-init
unfolding spaced least_multiple_of
loop-i-init c = (refl, c.if-limit-first.false)

-- the next number is in the slice
pub overflow_mul-at : goal.overflow_mul-at
overflow_mul-at c = omega (arith, c.requires.there c.loop-i.i c.loop-i-test.true)

pub overflow_add-at : goal.overflow_add-at
overflow_add-at c = omega (arith, c.requires.there c.loop-i.i c.loop-i-test.true)

pub offset_bounds-numbers-at : goal.offset_bounds-numbers-at
offset_bounds-numbers-at c = omega (arith, c.requires.there c.loop-i.i c.loop-i-test.true)

pub bounds-numbers-at : goal.bounds-numbers-at
bounds-numbers-at c = omega (arith, c.requires.there c.loop-i.i c.loop-i-test.true)

pub returns-in_default : goal.returns-in_default
returns-in_default c = stops c.requires _ c.loop-i.invariant.0 c.loop-i-test.true (sym c.least_multiple.ensures ∙ c.in_default.is)

pub loop-i-preserved : goal.loop-i-preserved
loop-i-preserved c = goes_on c.requires _ c.loop-i.invariant.0 c.loop-i-test.true (sym c.least_multiple.ensures ∙ c.in-Some.is)

pub returns : goal.returns
returns c =
    let at = c.loop-i in
    all_passed _ _ _ _ at.m at.i _ _ (omega arith) c.loop-i-test.false at.invariant.0 at.invariant.1
