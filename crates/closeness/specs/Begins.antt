-- The first length at which something is asked.
use Rattle.std.specs.Prelude.{ℕ, zero, suc, ◌≤◌, ◌<◌, min, ◌≡◌}

-- before it nothing is asked, at it something is; 0 where nothing ever is
pub record Begins (g : ℕ → ℕ) (first : ℕ) : Type 0 where
  pub none : (x : ℕ) → x < first → g x ≡ 0
  pub some : 1 ≤ first → 1 ≤ g first
  pub never : first ≡ 0 → (x : ℕ) → g x ≡ 0

-- the smaller of a first length, where there is one, and another length
abbrev pub sooner_of : (first d : ℕ) → ℕ
sooner_of zero d = d
sooner_of (suc first) d = min (suc first) d
