-- Example A's printed plan, unrolled: what example L says, and the idle positions between two turns.
-- Assumes nothing.
use Prim.Native.Nat.{ℕ, pred}
use mathlib.Core.Path.{◌≡◌, refl}
use mathlib.Core.List.{[], ◌∷◌}
use lib.ListN.{get_or}
use Rattle.ring.specs.declared.cover.Stand.{Stand}
use Rattle.ring_claims.specs.Rota.{Printed, starter, begins_at, next_tick, unrolled}

-- the figures of its lines 11, 12 and 14
abbrev a : Printed
a = record {
  whole = 0;
  ring = 2;
  servers = 3;
  slot = 10;
  idle = 2;
  reserve = λ q. get_or (6 ∷ 6 ∷ 6 ∷ []) (pred q) 0;
  start = λ q. get_or (0 ∷ 6 ∷ 12 ∷ []) (pred q) 0;
  first = λ p. get_or (1 ∷ 2 ∷ []) (pred p) 0;
  duration = λ p. get_or (6 ∷ 2 ∷ []) (pred p) 0;
}

abbrev runs : (server left : ℕ) → Stand
runs server left = record { server = server; left = left }

-- at tick 0 server 2 is on processor 2 with 2 ticks left; at tick 6 on processor 1 with 6
l_first : unrolled a 2 0 ≡ runs 2 2
unfolding unrolled
l_first = refl

l_later : unrolled a 1 6 ≡ runs 2 6
unfolding unrolled next_tick begins_at starter
l_later = refl

-- processor 2 is idle at ticks 8 and 9, and then at position 0
idle_begins : unrolled a 2 8 ≡ runs 0 2
unfolding unrolled next_tick begins_at starter
idle_begins = refl

turned : unrolled a 2 10 ≡ runs 1 6
unfolding unrolled next_tick begins_at starter
turned = refl

-- a turn of the ring, 20 ticks, brings processor 1 back
again : unrolled a 1 20 ≡ unrolled a 1 0
unfolding unrolled next_tick begins_at starter
again = refl
