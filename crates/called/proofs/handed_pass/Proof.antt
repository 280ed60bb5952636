-- `called::handed_pass` meets its contract: the question's verdict told in numbers. Assumes nothing.
use mathlib.Core.Path.{◌≡◌, refl, ◌∙◌, ap₂}
use borrow.Author.Rules.{rules}
use Rattle.tasks.specs.declared.set.TaskSet.{TaskSet}
use Rattle.plan.specs.declared.plan.Plan.{Plan}
use Rattle.doespass.specs.declared.PassAnswer.{PassAnswer}
use Rattle.doespass.specs.DoesPass.{does_pass}
use Rattle.verdict.specs.Numbers.{verdict_numbers}
use Rattle.told.proofs.ToldLaws.{told_by, told_numbers}
use Rattle.called.specs.Called.{pass_handed, pass_numbers, pass_told}
use Rattle.called.proofs.handed_pass.Statement.{statement}
use Rattle.called.proofs.handed_pass.Tie as tie

-- the question is asked of the set and the plan that the numbers give
asked : (c : tie.After-pass-passed) →
    let a = c.args in
    c.pass-passed.result ≡ pass_handed a.set.now a.plan.now a.server a.reserve
asked c =
    let a = c.args in
    c.pass-passed.ensures ∙ ap₂ (λ (s : TaskSet) (p : Plan). does_pass s p a.server a.reserve) c.set_from.ensures c.plan_from.ensures

returns : tie.Need-returns
unfolding pass_told pass_numbers
returns c =
    let numbers = c.before.before.before.before.before in
    let p = numbers.before in
    told_by (λ (p : PassAnswer). p.outcome) (λ (p : PassAnswer). verdict_numbers p.verdict) _ (asked p) refl
    (told_numbers p.pass-passed.result.outcome _ numbers.numbers_of-numbers.ensures c.tell.ensures)

pub handed_pass_spec : {M : Type 1} → statement M
handed_pass_spec =
    tie.close
    (tie.spec
    (λ c κs. search rules)
    (λ c κs. search rules)
    (λ c κs. search rules)
    (λ c κs. search rules)
    (λ c. search rules)
    (λ c κs. search rules)
    (λ c. search rules)
    returns)
