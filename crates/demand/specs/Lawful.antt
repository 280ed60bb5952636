-- What the theory asks of a demand, which is any function from lengths to ticks: each theorem asks for no more than it needs.
-- The demand of sound loads has all of it (Claims, LoadsLawful).
use Rattle.std.specs.Prelude.{ℕ, suc, ◌+◌, ◌≤◌, ◌≡◌, ◌⊎◌}

-- H ticks more never add more than the demand at H
abbrev pub Turns : (g : ℕ → ℕ) → (H : ℕ) → Type 0
Turns g H = (t : ℕ) → g (t + H) ≤ g t + g H

-- it never falls
abbrev pub Rising : (g : ℕ → ℕ) → Type 0
Rising g = (t u : ℕ) → t ≤ u → g t ≤ g u

-- it rises at steps only
abbrev pub RisesAt : (Step : ℕ → Type 0) → (g : ℕ → ℕ) → Type 0
RisesAt Step g = (t : ℕ) → Step (suc t) ⊎ (g (suc t) ≤ g t)

-- a demand for which a horizon decides
pub record Lawful (g : ℕ → ℕ) (H : ℕ) : Type 0 where
  pub none : g 0 ≡ 0
  pub horizon : 1 ≤ H
  pub turns : Turns g H
