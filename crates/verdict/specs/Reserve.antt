-- The smallest allowed reserve with which a demand passes.
-- Document 01, "From tasks to servers to ring", 2 (RULES 3.2).
use Rattle.std.specs.Prelude.{ℕ, ◌-◌, ◌≤◌, Bool, ◌&&◌, ltb}
use Rattle.demand.specs.Supply.{Allowed}
use Rattle.demand.specs.Passes.{Passes}
use Rattle.search.specs.Search.{first_up_to, or_else}
use Rattle.verdict.specs.Verdict.{passing}

-- R is past the entry loss, and the demand passes with it
unfoldable pub enough : (g : ℕ → ℕ) → (H S L R : ℕ) → Bool
enough g H S L R = ltb L R && passing g H S L R

-- the smallest such R up to S − 1; where there is none, the whole processor
unfoldable pub smallest_reserve : (g : ℕ → ℕ) → (H S L : ℕ) → ℕ
smallest_reserve g H S L = or_else (first_up_to (enough g H S L) (S - 1)) S

-- R is allowed, the demand passes with it at every length, and with no smaller allowed reserve
pub record Smallest (g : ℕ → ℕ) (S L R : ℕ) : Type 0 where
  pub allowed : Allowed S L R
  pub passes : Passes g S L R
  pub least : (R' : ℕ) → Allowed S L R' → Passes g S L R' → R ≤ R'
