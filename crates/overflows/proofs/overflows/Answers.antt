-- `overflows::overflows` meets its contract: one of the values is too large where one of the row's widths with its value is.
-- Assumes nothing.
use Prim.Native.Nat.{ℕ}
use mathlib.Core.Path.{sym, ◌∙◌, ap}
use mathlib.Core.List.{List}
use native.Mathlib.Omega.{arith}
use lib.ListN.{take}
use Rattle.std.proofs.Common.{rules, tests}
use Rattle.std.proofs.lemmas.Iterator.{YieldsList-from_slice, YieldsList-from_zip}
use Rattle.std.proofs.lemmas.Iterator.Search.{any_from_yields_List}
use Rattle.digits.specs.Number.{too_large}
use Rattle.framesizes.specs.Overflow.{some_too_large, line_overflows}
use Rattle.overflows.proofs.WidthLaws.{row_fields, widths_are, widths_most, some_pair}
use Rattle.overflows.proofs.overflows.Goals as goal

pub shared_ref_as_front-iter : goal.shared_ref_as_front-iter
shared_ref_as_front-iter c = omega (arith, c.fields_in.ensures, row_fields c.args.frame c.row_of-row.ensures, widths_most c.args.frame c.row_of-row.ensures)

pub returns : goal.returns
unfolding line_overflows
returns c =
    let a = c.args in
    let ws : List ℕ = take c.fields_in.result c.row_of-row.result.widths in
    any_from_yields_List (λ (p : ℕ × ℕ). too_large p.0 p.1) c.any.new.self _ c.any.result c.any.ensures.ran (YieldsList-from_zip (YieldsList-from_slice ws cc) (YieldsList-from_slice a.values.now cc)) (λ x b q k. search (rules, tests))
    ∙ some_pair ws a.values.now
    ∙ ap (λ (l : List ℕ). some_too_large l a.values.now) (ap (λ (k : ℕ). take k c.row_of-row.result.widths) (c.fields_in.ensures ∙ sym (row_fields a.frame c.row_of-row.ensures)) ∙ widths_are a.frame c.row_of-row.ensures)
