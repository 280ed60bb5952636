-- `frameread::is_line` meets its contract: each refusal says why the text is not formed, and at the end only its digits are left to test.
-- Assumes nothing.
use Prim.Native.Nat.{◌-◌, ◌≤◌, ◌<◌}
use mathlib.Core.Path.{refl, sym, ◌∙◌}
use native.Mathlib.Omega.{arith}
use lib.ListN.{length}
use borrow.Author.Tests.{not-true, not-false}
use Rattle.frameread.proofs.Places.{not_long, not_ended, not_kind, rest_legal}
use Rattle.is_line.proofs.is_line.Goals as goal

pub returns-then-not-is_kind : goal.returns-then-not-is_kind
returns-then-not-is_kind c =
    let a = c.args in
    sym (not_kind a.frame a.text.now a.at _ refl (sym c.is_kind.ensures ∙ not-true _ c.if-not-is_kind.true-raw))

pub returns-then-text-at : goal.returns-then-text-at
returns-then-text-at c =
    let a = c.args in
    let short : length a.text.now - a.at ≤ c.length-n.result = omega (arith, c.if-text-at.true) in
    sym (not_long a.frame a.text.now a.at _ c.length-n.ensures short)

pub returns-then-open : goal.returns-then-open
returns-then-open c =
    let a = c.args in
    sym (not_ended a.frame a.text.now a.at _ c.length-n.ensures c.if-open.true)

pub returns : goal.returns
returns c =
    let a = c.args in
    let size = c.length-n in
    let long : size.result < length a.text.now - a.at = omega (arith, c.if-text-at.false) in
    c.all_legal.ensures
    ∙ sym
    (rest_legal a.frame a.text.now a.at _ size.ensures
    long
    c.if-open.false
    (sym c.is_kind.ensures ∙ not-false _ c.if-not-is_kind.false-raw))
