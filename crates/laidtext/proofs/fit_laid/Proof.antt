-- The plan is laid, and its text written.
-- Assumes nothing.
use mathlib.Core.Path.{◌≡◌, sym, ap, ◌∙◌}
use mathlib.Core.Bool.{true}
use borrow.Author.Rules.{rules}
use Rattle.layout.specs.Made.{plan_made}
use Rattle.planner.proofs.Made.{outcome_clear}
use Rattle.plancheck.specs.Makes.{makes}
use Rattle.plantext.specs.Text.{plan_text}
use Rattle.planfit.proofs.FitLaws.{fits_as}
use Rattle.planfile.proofs.AcceptLaws.{makes_counted}
use Rattle.filerows.proofs.FileLaws.{set_makes}
use Rattle.switchlist.specs.Write.{plan_switches}
use Rattle.laidtext.specs.declared.Text.{Text}
use Rattle.laidtext.specs.Kinds.{text_of}
use Rattle.laidtext.proofs.fit_laid.Statement.{statement}
use Rattle.laidtext.proofs.fit_laid.Tie as tie

plan_of-plan-requires : tie.Need-plan_of-plan-requires
plan_of-plan-requires c κs = ((outcome_clear _ c.requires.0).0, c.requires.1)

-- the plan is laid
module _ (c : tie.After-plan_of-plan) where
  makes-it : makes c.args.set c.plan_of-plan.result ≡ true
  makes-it = set_makes _ c.requires.0 c.plan_of-plan.ensures

fit_plan-requires : tie.Need-fit_plan-requires
fit_plan-requires c κs = makes_counted _ _ (makes-it c.before.before)

fit_switches-requires : tie.Need-fit_switches-requires
fit_switches-requires c κs = makes-it c.before.before

returns-in-Plan : tie.Need-returns-in-Plan
returns-in-Plan c =
    let p = c.before.before.before.before.before in
    fits_as
    (ap (plan_text p.args.set) p.plan_of-plan.ensures ∙ sym (ap (λ (t : Text). text_of t p.args.set (plan_made p.args.set)) c.in-Plan.is))
    c.fit_plan.ensures

returns-in-Switches : tie.Need-returns-in-Switches
returns-in-Switches c =
    let p = c.before.before.before.before.before in
    fits_as
    (ap plan_switches p.plan_of-plan.ensures ∙ sym (ap (λ (t : Text). text_of t p.args.set (plan_made p.args.set)) c.in-Switches.is))
    c.fit_switches.ensures

pub fit_laid_spec : {M : Type 1} → statement M
fit_laid_spec =
    tie.close
    (tie.spec
    plan_of-plan-requires
    (λ c. search rules)
    fit_plan-requires
    (λ c. search rules)
    fit_switches-requires
    (λ c. search rules)
    returns-in-Plan
    (λ c. search rules)
    returns-in-Switches)
