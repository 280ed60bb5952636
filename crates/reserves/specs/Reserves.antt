-- The reserves of all servers in server order, and where those below a slot stand on the ring.
-- Document 01, "From tasks to servers to ring", rule 3 (RULES 3.3).
use Rattle.std.specs.Prelude.{ℕ, pred, ◌+◌, ◌*◌, ◌-◌, List, [], ◌∷◌, get_or, take, ltb, cond}
use Rattle.wholes.specs.Ceiling.{ceiling_of}

-- the reserve of server q; servers count from 1
abbrev pub reserve_of : List ℕ → ℕ → ℕ
reserve_of reserves q = get_or reserves (pred q) 0

-- the sum of the reserves that stand on the ring: those below a slot
unfoldable pub ring_ticks : (S : ℕ) (reserves : List ℕ) → ℕ
ring_ticks S [] = 0
ring_ticks S (R ∷ Rs) = cond (ltb R S) R 0 + ring_ticks S Rs

-- the servers that have a whole processor
unfoldable pub wholes : (S : ℕ) (reserves : List ℕ) → ℕ
wholes S [] = 0
wholes S (R ∷ Rs) = cond (ltb R S) 0 1 + wholes S Rs

-- each ring server starts where the last ended: after all ring reserves of lower number
abbrev pub start_of : (S : ℕ) (reserves : List ℕ) (q : ℕ) → ℕ
start_of S reserves q = ring_ticks S (take (pred q) reserves)

-- r = ceil(sum of R / S)
abbrev pub ring_processors : (S : ℕ) (reserves : List ℕ) → ℕ
ring_processors S reserves = ceiling_of (ring_ticks S reserves) S

-- the ring has r·S positions
abbrev pub ring_length : (S : ℕ) (reserves : List ℕ) → ℕ
ring_length S reserves = ring_processors S reserves * S

-- those after the last reserve are idle
abbrev pub idle_positions : (S : ℕ) (reserves : List ℕ) → ℕ
idle_positions S reserves = ring_length S reserves - ring_ticks S reserves

-- the processors that are there: r on the ring, then one for each server that has a whole one
abbrev pub processors_of : (S : ℕ) (reserves : List ℕ) → ℕ
processors_of S reserves = ring_processors S reserves + wholes S reserves
