-- What the planner, the check and the questions answer to a set and a plan that are handed in as numbers: a status, and numbers in lent memory.
-- Document 01, the two questions (RULES 4.1 and 4.2), and "Refusal numbers and their order" (RULES 6).
use Rattle.std.specs.Prelude.{ℕ, List, [], ◌∷◌}
use Rattle.refusals.specs.Refused.{Outcome}
use Rattle.verdict.specs.Numbers.{verdict_numbers}
use Rattle.told.specs.Told.{told_of}
use Rattle.planner.specs.Planner.{plan_of}
use Rattle.whoruns.specs.declared.WhoAnswer.{WhoAnswer}
use Rattle.whoruns.specs.WhoRuns.{who_runs}
use Rattle.doespass.specs.declared.PassAnswer.{PassAnswer}
use Rattle.doespass.specs.DoesPass.{does_pass}
use Rattle.handedset.specs.Set.{set_from}
use Rattle.handedplan.specs.Plan.{plan_from}
use Rattle.numbered.specs.Numbered.{plan_numbers}

-- the plan of a set
unfoldable pub planned_numbers : (set : List ℕ) → List ℕ
planned_numbers set = plan_numbers (plan_of (set_from set)).plan

unfoldable pub planned_told : (set answer : List ℕ) → Outcome
planned_told set answer = told_of (plan_of (set_from set)).outcome (planned_numbers set) answer

-- who runs on processor p at tick x: the server, 0 for idle, and the ticks left
abbrev pub who_handed : (set plan : List ℕ) (p x : ℕ) → WhoAnswer
who_handed set plan p x = who_runs (set_from set) (plan_from plan) p (record { 0 = x })

unfoldable pub who_numbers : (set plan : List ℕ) (p x : ℕ) → List ℕ
who_numbers set plan p x = (who_handed set plan p x).server ∷ (who_handed set plan p x).left ∷ []

unfoldable pub who_told : (set plan : List ℕ) (p x : ℕ) (answer : List ℕ) → Outcome
who_told set plan p x answer = told_of (who_handed set plan p x).outcome (who_numbers set plan p x) answer

-- does server q pass with R
abbrev pub pass_handed : (set plan : List ℕ) (q R : ℕ) → PassAnswer
pass_handed set plan q R = does_pass (set_from set) (plan_from plan) q R

unfoldable pub pass_numbers : (set plan : List ℕ) (q R : ℕ) → List ℕ
pass_numbers set plan q R = verdict_numbers (pass_handed set plan q R).verdict

unfoldable pub pass_told : (set plan : List ℕ) (q R : ℕ) (answer : List ℕ) → Outcome
pass_told set plan q R answer = told_of (pass_handed set plan q R).outcome (pass_numbers set plan q R) answer
