-- What is claimed of the lengths where a demand steps, each claim as a type. They are proved in proofs/Claims.antt.
use Rattle.std.specs.Prelude.{ℕ, ◌+◌, max, ◌≡◌, List, ◌↔◌}
use Rattle.demand.specs.Load.{Load, Sound, Every}
use Rattle.demand.specs.Demand.{demand}
use Rattle.demand.specs.Lawful.{Rising}
use Rattle.demand.specs.Steps.{Step}
use Rattle.search.specs.Search.{last_up_to}
use Rattle.steps.specs.Stepping.{StepsAt, steps, last_of_greater}

-- the demand of sound loads steps exactly where a deadline falls: at d + j·T for some load and some j
abbrev pub StepsAtDeadlines : Type 0
StepsAtDeadlines = (ls : List Load) (x : ℕ) → Every Sound ls → StepsAt (demand ls) x ↔ Step ls x

-- the last step of two demands that never fall: of both together, and of the greater of them
pub record LastOfTwo : Type 0 where
  pub together : (f g : ℕ → ℕ) (hi : ℕ) → Rising f → Rising g →
      last_up_to (steps (λ t. f t + g t)) hi ≡ max (last_up_to (steps f) hi) (last_up_to (steps g) hi)
  pub greater : (f g : ℕ → ℕ) (hi : ℕ) → Rising f → Rising g →
      last_up_to (steps (λ t. max (f t) (g t))) hi ≡ last_of_greater (f hi) (last_up_to (steps f) hi) (g hi) (last_up_to (steps g) hi)
