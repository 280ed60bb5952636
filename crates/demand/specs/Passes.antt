-- When a demand passes with a reserve: at every length, no tick bound. The report's fake-task form beside it.
-- Document 01, "Demand, supply, and the report's test" (RULES 2.4); the report's Eq. 13 to 16.
use Rattle.std.specs.Prelude.{ℕ, ◌+◌, ◌*◌, ◌-◌, ◌≤◌}
use Rattle.demand.specs.Demand.{jobs}
use Rattle.demand.specs.Supply.{supply}

-- demand ≤ supply at every t ≥ 1
abbrev pub Passes : (g : ℕ → ℕ) → (S L R : ℕ) → Type 0
Passes g S L R = (t : ℕ) → 1 ≤ t → g t ≤ supply S L R t

-- the demand of a task of cost f, deadline f and period S
unfoldable pub fake : (S f t : ℕ) → ℕ
fake S f t = f * jobs f S t

-- the demand and the fake task of a ring reserve fit into every length
abbrev pub FakePasses : (g : ℕ → ℕ) → (S L R : ℕ) → Type 0
FakePasses g S L R = (t : ℕ) → 1 ≤ t → g t + fake S (S - R + L) t ≤ t
