-- Row 11 unless the planner makes the plan, then the list as it fits.
-- Assumes nothing.
use mathlib.Core.Path.{sym, ◌∙◌}
use borrow.Author.Tests.{not-true, not-false}
use Rattle.planfit.proofs.FitLaws.{write_fits, write_asks}
use Rattle.switchlist.specs.Write.{plan_switches}
use Rattle.switchlist_code.proofs.write_switches.Goals as goal

pub returns-then-not-makes_plan : goal.returns-then-not-makes_plan
returns-then-not-makes_plan c =
    let a = c.args in
    write_asks a.out.now (plan_switches a.plan) (sym c.makes_plan.ensures ∙ not-true _ c.if-not-makes_plan.true-raw)

pub fit_switches-requires : goal.fit_switches-requires
fit_switches-requires c = sym c.makes_plan.ensures ∙ not-false _ c.if-not-makes_plan.false-raw

pub returns : goal.returns
returns c =
    let a = c.args in
    write_fits a.out.now (plan_switches a.plan) (sym c.makes_plan.ensures ∙ not-false _ c.if-not-makes_plan.false-raw) c.fit_switches.ensures
