-- `makes_plan` meets its contract: the planner's own plan is made and compared.
-- Assumes nothing.
use Rattle.std.specs.Prelude.{Ok}
use borrow.Author.Rules.{rules}
use mathlib.Core.Path.{◌≡◌, sym, ap, ◌∙◌}
use lib.ListN.{length}
use native.Mathlib.Omega.{arith}
use Rattle.tasks.specs.Set.{most_tasks}
use Rattle.planner.specs.declared.PlanAnswer.{PlanAnswer}
use Rattle.layout.specs.Made.{plan_made}
use Rattle.planner.specs.Planner.{plan_outcome}
use Rattle.planner.proofs.Made.{count_most, plan_outcome_lem, plan_is, outcome_clear}
use Rattle.plancheck.proofs.Checked.{makes_refused, makes_by, made_room}
use Rattle.plancheck_code.proofs.makes_plan.Statement.{statement}
use Rattle.plancheck_code.proofs.makes_plan.Tie as tie

-- a set's tasks have their places
full : (c : tie.Start) → length c.args.set.tasks ≡ most_tasks
full c = c.well_formed.0.1.1.1.1.0.1.0.1

-- where the planner is done, its plan is the set's
done : (c : tie.In-Ok) → plan_outcome c.args.set ≡ Ok tt
done c =
    sym (plan_outcome_lem c.args.set) ∙ sym (ap (λ (a : PlanAnswer). a.outcome) c.make-made.ensures) ∙ c.in-Ok.is

made : (c : tie.In-Ok) → c.make-made.result.plan ≡ plan_made c.args.set
made c = ap (λ (a : PlanAnswer). a.plan) c.make-made.ensures ∙ plan_is c.args.set (done c)

returns-in_default : tie.Need-returns-in_default
returns-in_default c = makes_refused _ _ (sym (ap (λ (a : PlanAnswer). a.outcome) c.make-made.ensures) ∙ c.in_default.is)

agree-requires : tie.Need-agree-requires
agree-requires c κs =
    let s = c.before.before.before in
    let clear = (outcome_clear s.args.set (done c.before)).0.clear in
    (omega (arith, count_most s.args.set (full s) clear), rw (made c.before) (made_room s.args.set (full s) s.args.plan clear))

returns : tie.Need-returns
returns c = makes_by c.args.set c.args.plan (done c.before.before) (made c.before.before) c.agree.ensures

pub makes_plan_spec : {M : Type 1} → statement M
makes_plan_spec =
    tie.close
    (tie.spec
    (λ c κs. search rules)
    (λ c. search rules)
    (λ c. search rules)
    returns-in_default
    agree-requires
    returns)
