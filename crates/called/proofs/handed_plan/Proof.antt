-- `called::handed_plan` meets its contract: the numbers of the plan that is made, or the planner's refusal. Assumes nothing.
use Prim.Native.Nat.{ℕ}
use mathlib.Core.Path.{◌≡◌, ◌∙◌, ap}
use mathlib.Core.List.{List}
use borrow.Author.Rules.{rules}
use Rattle.refusals.specs.Refused.{Outcome}
use Rattle.planner.specs.declared.PlanAnswer.{PlanAnswer}
use Rattle.planner.specs.Planner.{plan_of}
use Rattle.told.specs.Told.{status_of, leaves_numbers}
use Rattle.told.proofs.ToldLaws.{Told, told_by, told_refused}
use Rattle.handedset.specs.Set.{set_from}
use Rattle.numbered.specs.Numbered.{plan_numbers}
use Rattle.called.specs.Called.{planned_numbers, planned_told}
use Rattle.called.proofs.handed_plan.Statement.{statement}
use Rattle.called.proofs.handed_plan.Tie as tie

-- the numbers of the planner's answer, told with an outcome
told : (answer set : List ℕ) {m : PlanAnswer} {o : Outcome} {status : ℕ} {left : List ℕ} → m ≡ plan_of (set_from set) → m.outcome ≡ o
    → Told o (plan_numbers m.plan) answer status left
    → (status ≡ status_of (planned_told set answer)) × (left ≡ leaves_numbers (planned_told set answer) (planned_numbers set) answer)
unfolding planned_told planned_numbers
told answer set = told_by (λ (m : PlanAnswer). m.outcome) (λ (m : PlanAnswer). plan_numbers m.plan) answer

-- what is made of the set that the numbers give
made : (c : tie.After-make-made) → c.make-made.result ≡ plan_of (set_from c.args.set.now)
made c = c.make-made.ensures ∙ ap plan_of c.set_from.ensures

returns-in-Ok : tie.Need-returns-in-Ok
returns-in-Ok c =
    let m = c.before.before.before.before.before.before in
    let a = m.args in
    told a.answer.now a.set.now (made m) c.in-Ok.is c.put_plan.ensures

returns-in-Err : tie.Need-returns-in-Err
returns-in-Err c =
    let m = c.before.before.before in
    let a = m.args in
    told a.answer.now a.set.now (made m) c.in-Err.is (told_refused _ a.answer.now _ c.code.ensures)

pub handed_plan_spec : {M : Type 1} → statement M
handed_plan_spec =
    tie.close
    (tie.spec
    (λ c κs. search rules)
    (λ c κs. search rules)
    (λ c. search rules)
    (λ c κs. search rules)
    (λ c. search rules)
    (λ c κs. search rules)
    (λ c. search rules)
    returns-in-Ok
    returns-in-Err)
