-- Which server's reserve covers a position of the ring, and the ticks to that reserve's end.
-- Document 01, "From tasks to servers to ring", rules 3 and 5 (RULES 3.3 and 3.5).
use Rattle.std.specs.Prelude.{ℕ, zero, suc, ◌+◌, ◌-◌, List, Bool, cond, ◌&&◌, length, leb, ltb}
use Rattle.ring.specs.declared.clock.Position.{Position}
use Rattle.ring.specs.declared.cover.Stand.{Stand}
use Rattle.reserves.specs.Reserves.{reserve_of, start_of, ring_length}

-- the reserve of ring server q covers the positions from its start on, as many as its ticks
unfoldable pub covers : (S : ℕ) (reserves : List ℕ) (q : ℕ) → Position → Bool
covers S reserves q at =
    ltb (reserve_of reserves q) S &&
    (leb (start_of S reserves q) at.0 && ltb at.0 (start_of S reserves q + reserve_of reserves q))

-- the server, among the first n, whose reserve covers a position; 0 where none does
unfoldable pub coverer_up_to : (S : ℕ) (reserves : List ℕ) → Position → ℕ → ℕ
coverer_up_to S reserves at zero = 0
coverer_up_to S reserves at (suc n) = cond (covers S reserves (suc n) at) (suc n) (coverer_up_to S reserves at n)

-- to the end of the reserve, or of the idle stretch at the ring's end
abbrev pub left_from : (S : ℕ) (reserves : List ℕ) → Position → (q : ℕ) → ℕ
left_from S reserves at zero = ring_length S reserves - at.0
left_from S reserves at (suc q) = start_of S reserves (suc q) + reserve_of reserves (suc q) - at.0

unfoldable pub stand_at : (S : ℕ) (reserves : List ℕ) → Position → Stand
stand_at S reserves at =
    record { server = coverer_up_to S reserves at (length reserves); left = left_from S reserves at (coverer_up_to S reserves at (length reserves)) }
