-- What the functions of the ring ask of the reserves that they are lent.
-- Document 01, "Demand, supply, and the report's test" (RULES 2.2): a reserve is 1 to S − 1 (ring), or S (a whole processor).
use Rattle.std.specs.Prelude.{ℕ, ◌≤◌, ◌<◌, ◌^◌, List, length, get_or}

-- the first n reserves of a slice are there, few enough that no sum of them wraps, and from 1 to the slot; server i + 1 has the i-th
pub record SlottedFirst (S : ℕ) (reserves : List ℕ) (n : ℕ) : Type 0 where
  pub there : n ≤ length reserves
  pub few : n ≤ 256
  pub slot_some : 1 ≤ S
  pub slot_below : S < 2 ^ 32
  pub some : (i : ℕ) → i < n → 1 ≤ get_or reserves i 0
  pub within : (i : ℕ) → i < n → get_or reserves i 0 ≤ S
