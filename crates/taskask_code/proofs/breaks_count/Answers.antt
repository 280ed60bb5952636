-- Row 3: the count is 0, or past the most, or that of the interrupts is.
-- Assumes nothing.
use Prim.Native.Nat.{◌≤◌, ◌<◌}
use native.Mathlib.Omega.{arith}
use mathlib.Core.Path.{refl, sym}
use borrow.Author.Tests.{eq-eqb, ne_eqb, lt-ltb, le-ltb}
use Rattle.tasks.specs.Set.{most_tasks}
use Rattle.taskask.proofs.Carried.{count_rows}
use Rattle.taskask_code.proofs.breaks_count.Goals as goal

pub returns-then-none : goal.returns-then-none
returns-then-none c = sym (count_rows c.args.set (eq-eqb _ _ c.if-none.true) refl refl)

pub returns-then-too_many : goal.returns-then-too_many
returns-then-too_many c =
    let set = c.args.set in
    let past : most_tasks < set.count = omega (arith, c.if-too_many.true) in
    sym (count_rows set (ne_eqb _ _ c.if-none.false) (lt-ltb _ _ past) refl)

pub returns : goal.returns
returns c =
    let set = c.args.set in
    let few : set.count ≤ most_tasks = omega (arith, c.if-too_many.false) in
    sym (count_rows set (ne_eqb _ _ c.if-none.false) (le-ltb _ _ few) refl)
