-- `last_due` meets its contract: a whole number of periods past the deadline, or nothing before it.
-- Assumes nothing.
use Prim.Native.Nat.{◌≤◌, ◌<◌}
use mathlib.Core.Path.{sym}
use native.Mathlib.Nat.{le_trans, mod-le}
use native.Mathlib.Omega.{arith}
use Rattle.steps.proofs.LastLaws.{last_due, last_early}
use Rattle.last_of_greatest.proofs.last_due.Goals as goal

pub overflow_sub-result-then-deadline-hi : goal.overflow_sub-result-then-deadline-hi
overflow_sub-result-then-deadline-hi c = le_trans (mod-le _ _) (omega arith)

pub returns-then-deadline-hi : goal.returns-then-deadline-hi
returns-then-deadline-hi c =
    let a = c.args in
    let due : a.deadline ≤ a.hi = omega (arith, c.if-deadline-hi.true) in
    sym (last_due a.deadline a.period a.hi c.requires.0 c.requires.1 due)

pub returns : goal.returns
returns c =
    let a = c.args in
    let early : a.hi < a.deadline = omega (arith, c.if-deadline-hi.false) in
    sym (last_early a.deadline a.period a.hi c.requires.0 c.requires.1 early)
