-- The lengths at which a demand steps: those at which one more deadline falls into the window.
-- Document 01, "Demand, supply, and the report's test" (RULES 2.4): the lengths that decide in the supply form.
use Rattle.std.specs.Prelude.{ℕ, ◌+◌, ◌*◌, ◌≤◌, ◌≡◌, ◌⊎◌, List, [], ◌∷◌}
use Rattle.demand.specs.Load.{Load}

-- x = d + j·T for some j
abbrev pub StepOf : Load → ℕ → Type 0
StepOf l x = (j : ℕ) × (x ≡ l.deadline + j * l.period)

abbrev pub Some : (Load → Type 0) → List Load → Type 0
Some P [] = ⊥
Some P (l ∷ ls) = P l ⊎ Some P ls

-- a length x ≥ 1 that is a step of some load of the list
abbrev pub Step : List Load → ℕ → Type 0
Step ls x = (1 ≤ x) × Some (λ (l : Load). StepOf l x) ls
