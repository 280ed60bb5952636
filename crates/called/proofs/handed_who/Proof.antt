-- `called::handed_who` meets its contract: the question's answer told in numbers. Assumes nothing.
use mathlib.Core.Path.{◌≡◌, refl, ◌∙◌, ap₂}
use mathlib.Core.List.{[], ◌∷◌}
use borrow.Author.Rules.{rules}
use Rattle.tasks.specs.declared.set.TaskSet.{TaskSet}
use Rattle.plan.specs.declared.plan.Plan.{Plan}
use Rattle.whoruns.specs.declared.WhoAnswer.{WhoAnswer}
use Rattle.whoruns.specs.WhoRuns.{who_runs}
use Rattle.told.proofs.ToldLaws.{told_by}
use Rattle.called.specs.Called.{who_handed, who_numbers, who_told}
use Rattle.called.proofs.handed_who.Statement.{statement}
use Rattle.called.proofs.handed_who.Tie as tie

-- the question is asked of the set and the plan that the numbers give
asked : (c : tie.After-who-who) →
    let a = c.args in
    c.who-who.result ≡ who_handed a.set.now a.plan.now a.processor a.tick
asked c =
    let a = c.args in
    c.who-who.ensures ∙ ap₂ (λ (s : TaskSet) (q : Plan). who_runs s q a.processor (record { 0 = a.tick })) c.set_from.ensures c.plan_from.ensures

returns : tie.Need-returns
unfolding who_told who_numbers
returns c =
    told_by (λ (w : WhoAnswer). w.outcome) (λ (w : WhoAnswer). w.server ∷ w.left ∷ []) _ (asked c.before.before.before.before.before) refl c.tell.ensures

pub handed_who_spec : {M : Type 1} → statement M
handed_who_spec =
    tie.close
    (tie.spec
    (λ c κs. search rules)
    (λ c κs. search rules)
    (λ c κs. search rules)
    (λ c. search rules)
    (λ c κs. search rules)
    (λ c. search rules)
    returns)
