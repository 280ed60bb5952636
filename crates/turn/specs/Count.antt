-- How many switches a turn has, and the most bytes that their text can have.
-- Document 02, Req 01 (RULES 4.3 to 4.5).
use Rattle.std.specs.Prelude.{ℕ, zero, suc, ◌+◌, ◌*◌, ◌-◌, List, cond, length, ltb}
use Rattle.frames.specs.declared.table.Frame.{Frame}
use Rattle.frames.specs.Table.{length_of}
use Rattle.tasks.specs.Set.{most_tasks, most_processors}
use Rattle.reserves.specs.Reserves.{reserve_of, wholes, ring_processors, idle_positions}
use Rattle.ring.specs.Who.{first_reserve}

-- the stretches of the ring: the ring servers' reserves, and the idle positions where there are any
unfoldable pub stretches : (S : ℕ) (reserves : List ℕ) → ℕ
stretches S reserves = length reserves - wholes S reserves + cond (ltb 0 (idle_positions S reserves)) 1 0

-- of the first n ring processors, those that start amid a reserve: less is left of it than it has
unfoldable pub amid : (S : ℕ) (reserves : List ℕ) (n : ℕ) → ℕ
amid S reserves zero = 0
amid S reserves (suc n) =
    amid S reserves n + cond (ltb (first_reserve S reserves (suc n)).left (reserve_of reserves (first_reserve S reserves (suc n)).server)) 1 0

-- in a turn each ring processor begins every stretch once, and tick 0 lists those that start amid one too
unfoldable pub switch_count : (S : ℕ) (reserves : List ℕ) → ℕ
switch_count S reserves = ring_processors S reserves * stretches S reserves + amid S reserves (ring_processors S reserves)

-- processor 1 starts where the ring begins
abbrev pub most_switches : ℕ
most_switches = most_processors * (most_tasks + 1) + (most_processors - 1)

-- the bytes of the longest text
abbrev pub longest_switches : ℕ
longest_switches = most_switches * (length_of Frame.Switch + 1)
