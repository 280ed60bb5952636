-- What the rules of the ring ask of the reserves.
-- Document 01, "Demand, supply, and the report's test" (RULES 2.2): a reserve is 1 to S − 1 (ring), or S (a whole processor).
use Rattle.std.specs.Prelude.{ℕ, ◌≤◌, ◌<◌, List, length, get_or}

-- a slot of at least one tick, and reserves from 1 to the slot; server i + 1 has the i-th
pub record Slotted (S : ℕ) (reserves : List ℕ) : Type 0 where
  pub slot_some : 1 ≤ S
  pub some : (i : ℕ) → i < length reserves → 1 ≤ get_or reserves i 0
  pub within : (i : ℕ) → i < length reserves → get_or reserves i 0 ≤ S
