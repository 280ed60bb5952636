-- Row 11 unless the planner makes the plan, then the text as it fits.
-- Assumes nothing.
use mathlib.Core.Path.{sym, ◌∙◌}
use Rattle.plantext.specs.Text.{plan_text}
use Rattle.planfit.proofs.FitLaws.{write_fits, write_asks}
use Rattle.planfile.proofs.AcceptLaws.{makes_counted}
use borrow.Author.Tests.{not-true, not-false}
use Rattle.write_plan.proofs.write_plan.Goals as goal

pub returns-then-not-makes_plan : goal.returns-then-not-makes_plan
returns-then-not-makes_plan c =
    let a = c.args in
    write_asks a.out.now (plan_text a.set a.plan) (sym c.makes_plan.ensures ∙ not-true _ c.if-not-makes_plan.true-raw)

pub fit_plan-requires : goal.fit_plan-requires
fit_plan-requires c =
    makes_counted c.args.set c.args.plan (sym c.makes_plan.ensures ∙ not-false _ c.if-not-makes_plan.false-raw)

pub returns : goal.returns
returns c =
    let a = c.args in
    write_fits a.out.now (plan_text a.set a.plan) (sym c.makes_plan.ensures ∙ not-false _ c.if-not-makes_plan.false-raw) c.fit_plan.ensures
