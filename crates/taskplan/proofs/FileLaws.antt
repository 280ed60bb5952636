-- Laws of an answer that hands a refusal on, and of a file's set and plan: the planner makes the plan of the set.
-- Assumes nothing.
use Rattle.std.specs.Prelude.{Err, Ok}
use Prim.Native.Nat.{ℕ}
use mathlib.Core.Path.{◌≡◌, refl, sym, ◌∙◌, ap}
use mathlib.Core.List.{List}
use mathlib.Core.Bool.{true}
use Rattle.laws.proofs.Tests.{clash}
use Rattle.refusals.specs.declared.Refusal.{Refusal}
use Rattle.refusals.specs.Refused.{Outcome}
use Rattle.tasks.specs.declared.set.TaskSet.{TaskSet}
use Rattle.taskread.specs.Read.{read_of}
use Rattle.planner.specs.declared.PlanAnswer.{PlanAnswer}
use Rattle.layout.specs.Made.{plan_made}
use Rattle.planner.specs.Planner.{plan_outcome, plan_of}
use Rattle.planner.proofs.Made.{plan_outcome_lem, plan_is}
use Rattle.plancheck.specs.Makes.{makes}
use Rattle.planagree.proofs.AgreeLaws.{agree_self}
use Rattle.taskplan.specs.declared.FileAnswer.{FileAnswer}
use Rattle.taskplan.specs.File.{unless, refused_file, planned_set, filed_of}

-- the planner makes the plan that it answers
pub answer_makes : (set : TaskSet) (a : PlanAnswer) → a ≡ plan_of set → a.outcome ≡ Ok tt → makes set a.plan ≡ true
unfolding makes
answer_makes set a made done = rw (outcome, plan) (agree_self set.count (plan_made set))
  where
    outcome : plan_outcome set ≡ Ok tt
    outcome = sym (plan_outcome_lem set) ∙ sym (ap (λ (b : PlanAnswer). b.outcome) made) ∙ done

    plan : a.plan ≡ plan_made set
    plan = ap (λ (b : PlanAnswer). b.plan) made ∙ plan_is set outcome

-- what is made of an answer a, known to be b: done, or its refusal is handed on
module _ {A B : Type 0} (refused : Refusal → A) (outcome : B → Outcome) (f : B → A) {a b : B} (e : a ≡ b) where
  as_known : unless refused (outcome a) (f a) ≡ unless refused (outcome b) (f b)
  as_known = ap (λ (x : B). unless refused (outcome x) (f x)) e

  pub when_done : outcome a ≡ Ok tt → f a ≡ unless refused (outcome b) (f b)
  when_done d = sym (ap (λ (o : Outcome). unless refused o (f a)) d) ∙ as_known

  pub when_refused : {r : Refusal} → outcome a ≡ Err r → refused r ≡ unless refused (outcome b) (f b)
  when_refused d = sym (ap (λ (o : Outcome). unless refused o (f a)) d) ∙ as_known

-- the planner makes this file's plan of its set
abbrev Makes : FileAnswer → Type 0
Makes file = file.outcome ≡ Ok tt → makes file.set file.plan ≡ true

planned_makes : (set : TaskSet) (o : Outcome) → (plan_of set).outcome ≡ o → Makes (unless refused_file o (record { outcome = Ok tt; set = set; plan = (plan_of set).plan }))
planned_makes set (Ok _) e d = answer_makes set (plan_of set) refl e
planned_makes set (Err r) e d = clash (cc)

read_makes : (o : Outcome) (set : TaskSet) → Makes (unless refused_file o (planned_set set))
unfolding planned_set
read_makes (Ok _) set d = planned_makes set (plan_of set).outcome refl d
read_makes (Err r) set d = clash (cc)

pub filed_makes : (text : List ℕ) {file : FileAnswer} → file ≡ filed_of text → Makes file
unfolding filed_of
filed_makes text e d = rw e (read_makes (read_of text).outcome (read_of text).set (sym (ap (λ (g : FileAnswer). g.outcome) e) ∙ d))
