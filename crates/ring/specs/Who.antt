-- Who runs on a processor at a tick, and for how long; and the first reserve of each processor.
-- Document 01, "From tasks to servers to ring", rules 4 and 5 (RULES 3.4 and 3.5), and the question "who runs".
use Rattle.std.specs.Prelude.{ℕ, ◌-◌, ◌*◌, ◌%◌, List, cond, leb}
use Rattle.ring.specs.declared.clock.Tick.{Tick}
use Rattle.ring.specs.declared.cover.Stand.{Stand}
use Rattle.reserves.specs.Reserves.{ring_processors}
use Rattle.reserves.specs.Whole.{whole_server}
use Rattle.ring.specs.Phase.{phase}
use Rattle.ring.specs.Cover.{stand_at}

-- ring processors by position and phase; a whole processor has its server always, to the end of each slot
unfoldable pub who_of : (S : ℕ) (reserves : List ℕ) (p : ℕ) → Tick → Stand
who_of S reserves p x =
    cond (leb p (ring_processors S reserves)) (stand_at S reserves (phase S (ring_processors S reserves) p x))
    (record { server = whole_server S reserves (p - ring_processors S reserves - 1); left = S - x.0 % S })

-- the first reserve of processor p: the server that covers position (p − 1)·S, or the whole processor's, for S ticks
unfoldable pub first_reserve : (S : ℕ) (reserves : List ℕ) (p : ℕ) → Stand
first_reserve S reserves p =
    cond (leb p (ring_processors S reserves)) (stand_at S reserves (record { 0 = (p - 1) * S }))
    (record { server = whole_server S reserves (p - ring_processors S reserves - 1); left = S })
