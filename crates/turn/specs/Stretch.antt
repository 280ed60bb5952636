-- The stretches of the ring: one for each ring server's reserve, in server order, and the idle positions behind the last.
-- Document 01, "From tasks to servers to ring", rule 3 (RULES 3.3). Server 0 is the idle stretch.
use Rattle.std.specs.Prelude.{ℕ, zero, suc, ◌+◌, ◌%◌, ◌≤◌, ◌<◌, ◌≡◌, List, length, take}
use Rattle.reserves.specs.Slotted.{SlottedFirst}
use Rattle.tasks.specs.Set.{most_processors}
use Rattle.reserves.specs.Reserves.{reserve_of, start_of, ring_processors, ring_length, idle_positions}
use Rattle.ring.specs.declared.cover.Stand.{Stand}
use Rattle.ring.specs.Cover.{stand_at}
use Rattle.turn.specs.declared.Turn.{Turn}

-- where a stretch ends: that of a server at its start plus its reserve, the idle one at the ring's end
abbrev pub end_of : (S : ℕ) (reserves : List ℕ) (q : ℕ) → ℕ
end_of S reserves zero = ring_length S reserves
end_of S reserves (suc q) = start_of S reserves (suc q) + reserve_of reserves (suc q)

-- what stands behind it; behind the ring's end comes position 0
unfoldable pub stand_after : (S : ℕ) (reserves : List ℕ) (q : ℕ) → Stand
stand_after S reserves q = stand_at S reserves (record { 0 = end_of S reserves q % ring_length S reserves })

-- server q has a stretch: idle positions are there, or it is a server on the ring
pub record Stretched (S : ℕ) (reserves : List ℕ) (q : ℕ) : Type 0 where
  pub there : q ≤ length reserves
  pub idle : q ≡ 0 → 1 ≤ idle_positions S reserves
  pub ring : 1 ≤ q → reserve_of reserves q < S

-- the figures of a turn are those of the ring that is laid of the first reserves
pub record Laid (turn : Turn) (reserves : List ℕ) : Type 0 where
  pub slotted : SlottedFirst turn.slot reserves turn.servers
  pub ring : turn.ring ≡ ring_processors turn.slot (take turn.servers reserves)
  pub idle : turn.idle ≡ idle_positions turn.slot (take turn.servers reserves)
  pub few : turn.ring ≤ most_processors
