-- `fieldwrite::put_value` meets its contract: the mark is the greatest number of eight digits.
-- Assumes nothing.
use mathlib.Core.Path.{◌∙◌, ap}
use native.Mathlib.Omega.{arith}
use borrow.Author.Tests.{eqb-true}
use Rattle.digits.specs.Stored.{stored}
use Rattle.fieldwrite.proofs.MarkLaws.{mark_value}
use Rattle.fieldwrite.proofs.put_value.Goals as goal

pub returns-then-value-eq-MARK : goal.returns-then-value-eq-MARK
returns-then-value-eq-MARK c =
    let a = c.args in
    c.put_mark.ensures ∙ ap (stored a.out.now a.at) (mark_value a.digits a.value (omega arith) (omega (arith, eqb-true)))
