-- `rows::charged` meets its contract: each row is tried where those before it are clear.
-- Assumes nothing.
use Rattle.std.proofs.lemmas.Result.{err_from_is_err_and}
use mathlib.Core.Path.{sym, ◌∙◌}
use native.Mathlib.Omega.{arith}
use Rattle.tasks.specs.Set.{members}
use Rattle.tasks.proofs.Firsts.{first_within}
use Rattle.tasks.proofs.SetLaws.{members_length}
use Rattle.tightrows.specs.Rows.{slot_row, tight_row}
use Rattle.rows.proofs.Clears.{chargeable, charged_figures, charged_slot, charged_tight, charged_by}
use Rattle.rows_code.proofs.charged.Goals as goal

pub returns-in_err-figures : goal.returns-in_err-figures
returns-in_err-figures c =
    let p = err_from_is_err_and c.from_residual.result c.from_residual.ensures.1 in
    rw (p.1, p.2) (charged_figures _ (sym c.figures.ensures ∙ c.in_err-figures.was))

pub overflow_cast-result : goal.overflow_cast-result
overflow_cast-result c = omega (arith, c.first_broken-early.ensures, first_within (slot_row c.args.set.header) 1 (members c.args.set), members_length c.args.set (omega (arith, c.requires.0)), c.requires.0)

pub returns-then-early-ne0 : goal.returns-then-early-ne0
returns-then-early-ne0 c = charged_slot _ (sym c.figures.ensures ∙ c.in_ok-figures.was) c.first_broken-early.ensures c.if-early-ne0.true

pub overflow_cast-result-then-tight-ne0 : goal.overflow_cast-result-then-tight-ne0
overflow_cast-result-then-tight-ne0 c = omega (arith, c.first_broken-tight.ensures, first_within (tight_row c.args.set.header) 1 (members c.args.set), members_length c.args.set (omega (arith, c.requires.0)), c.requires.0)

pub returns-then-tight-ne0 : goal.returns-then-tight-ne0
returns-then-tight-ne0 c =
    charged_tight _ (sym c.figures.ensures ∙ c.in_ok-figures.was) (sym c.first_broken-early.ensures ∙ c.if-early-ne0.false) c.first_broken-tight.ensures c.if-tight-ne0.true

pub horizon_within-requires : goal.horizon_within-requires
horizon_within-requires c =
    chargeable _ c.requires.0 c.requires.1 (sym c.figures.ensures ∙ c.in_ok-figures.was) (sym c.first_broken-tight.ensures ∙ c.if-tight-ne0.false)

pub returns : goal.returns
returns c =
    c.ok_or.ensures.value
    ∙ charged_by _ (sym c.figures.ensures ∙ c.in_ok-figures.was) (sym c.first_broken-early.ensures ∙ c.if-early-ne0.false) (sym c.first_broken-tight.ensures ∙ c.if-tight-ne0.false) _ c.horizon_within.ensures
