-- What holds of every refusal that the reader gives and of every one that the planner gives holds of a file's refusal.
-- Assumes nothing.
use Rattle.std.specs.Prelude.{Err, Ok}
use Prim.Native.Nat.{ℕ}
use mathlib.Core.Path.{◌≡◌, refl, ap}
use mathlib.Core.List.{List}
use Rattle.laws.proofs.Tests.{clash}
use Rattle.refusals.specs.declared.Refusal.{Refusal}
use Rattle.refusals.specs.Refused.{Outcome}
use Rattle.tasks.specs.declared.set.TaskSet.{TaskSet}
use Rattle.taskread.specs.Read.{read_of}
use Rattle.planner.specs.Planner.{plan_of}
use Rattle.taskplan.specs.declared.FileAnswer.{FileAnswer}
use Rattle.taskplan.specs.File.{unless, refused_file, planned_set, filed_of}

module _ (P : Refusal → Type 0) where
  -- a refusal that is handed on
  handed : (o : Outcome) (file : FileAnswer) (r : Refusal) → ((q : Refusal) → o ≡ Err q → P q) → (o ≡ Ok tt → file.outcome ≡ Err r → P r) →
      (unless refused_file o file).outcome ≡ Err r → P r
  handed (Ok _) file r here next e = next refl e
  handed (Err q) file r here next e = let same : q ≡ r = cc in here r (ap Err same)

  planned : (set : TaskSet) → ((q : Refusal) → (plan_of set).outcome ≡ Err q → P q) → (r : Refusal) → (planned_set set).outcome ≡ Err r → P r
  unfolding planned_set
  planned set plans r e = handed (plan_of set).outcome (record { outcome = Ok tt; set = set; plan = (plan_of set).plan }) r plans (λ d f. clash (cc)) e

  -- the planner's, of the set that was read
  pub refused_of : (text : List ℕ) → ((q : Refusal) → (read_of text).outcome ≡ Err q → P q) →
      ((read_of text).outcome ≡ Ok tt → (q : Refusal) → (plan_of (read_of text).set).outcome ≡ Err q → P q) → (r : Refusal) → (filed_of text).outcome ≡ Err r → P r
  unfolding filed_of
  refused_of text reads plans r e =
      handed (read_of text).outcome (planned_set (read_of text).set) r reads (λ d f. planned (read_of text).set (plans d) r f) e

  -- or of any set
  pub refused_by : (text : List ℕ) → ((q : Refusal) → (read_of text).outcome ≡ Err q → P q) →
      ((set : TaskSet) (q : Refusal) → (plan_of set).outcome ≡ Err q → P q) → (r : Refusal) → (filed_of text).outcome ≡ Err r → P r
  refused_by text reads plans r e = refused_of text reads (λ d. plans (read_of text).set) r e
