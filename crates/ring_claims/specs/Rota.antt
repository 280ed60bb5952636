-- The printed rota unrolled, from what a boot code has: the printed plan, and nothing else.
-- Document 01, "From tasks to servers to ring", rules 3 to 5 (RULES 3.3 to 3.5), and "Lines of hexadecimal" (RULES 5): a processor starts with its first reserve;
-- each duration is counted down; then comes whoever starts where it ended, or the idle positions, and at the ring's end position 0.
use Rattle.std.specs.Prelude.{ℕ, zero, suc, ◌+◌, ◌*◌, ◌-◌, ◌%◌, ◌≤◌, ◌≡◌, List, Bool, cond, ◌&&◌, length, leb, ltb, eqb}
use Rattle.ring.specs.declared.cover.Stand.{Stand}
use Rattle.reserves.specs.Reserves.{reserve_of, start_of, wholes, ring_processors, idle_positions, processors_of}
use Rattle.ring.specs.Who.{first_reserve}
use Rattle.ring_claims.specs.Serves.{RingServer}

-- the figures of a plan's lines; servers and processors count from 1
pub record Printed : Type 0 where
  -- the 11 line
  pub whole : ℕ
  pub ring : ℕ
  pub servers : ℕ
  pub slot : ℕ
  pub idle : ℕ
  -- the 12 lines, by server; the start of a server with a whole processor is a mark that is never read
  pub reserve : ℕ → ℕ
  pub start : ℕ → ℕ
  -- the 14 lines, by processor
  pub first : ℕ → ℕ
  pub duration : ℕ → ℕ

-- server q stands on the ring, and starts at this position
abbrev pub starts : Printed → (at q : ℕ) → Bool
starts plan at q = ltb (plan.reserve q) plan.slot && eqb (plan.start q) at

-- the server, among the first n, that starts at a position; 0 where none does
unfoldable pub starter : Printed → (at n : ℕ) → ℕ
starter plan at zero = 0
starter plan at (suc n) = cond (starts plan at (suc n)) (suc n) (starter plan at n)

-- how long a stretch is: the idle one, and that of a server
abbrev pub lasts : Printed → ℕ → ℕ
lasts plan zero = plan.idle
lasts plan (suc q) = plan.reserve (suc q)

-- where it ends: the idle one at the ring's end, where position 0 follows; a server at its start plus its reserve, which may be there too
abbrev pub ends_at : Printed → ℕ → ℕ
ends_at plan zero = 0
ends_at plan (suc q) = (plan.start (suc q) + plan.reserve (suc q)) % (plan.ring * plan.slot)

-- what begins at a position: the server that starts there, or the idle stretch
unfoldable pub begins_at : Printed → ℕ → Stand
begins_at plan at = record { server = starter plan at plan.servers; left = lasts plan (starter plan at plan.servers) }

-- the tick after a tick: one less is left, or the next stretch begins; a whole processor begins its slot again
unfoldable pub next_tick : Printed → (p : ℕ) → Stand → Stand
next_tick plan p s =
    cond (leb 2 s.left) (record { server = s.server; left = s.left - 1 })
    (cond (leb p plan.ring) (begins_at plan (ends_at plan s.server)) (record { server = s.server; left = plan.slot }))

-- processor p at tick x
unfoldable pub unrolled : Printed → (p x : ℕ) → Stand
unrolled plan p zero = record { server = plan.first p; left = plan.duration p }
unrolled plan p (suc x) = next_tick plan p (unrolled plan p x)

-- the figures are those of the ring that is laid of these reserves
pub record PrintsRing (S : ℕ) (reserves : List ℕ) (plan : Printed) : Type 0 where
  pub whole : plan.whole ≡ wholes S reserves
  pub ring : plan.ring ≡ ring_processors S reserves
  pub servers : plan.servers ≡ length reserves
  pub slot : plan.slot ≡ S
  pub idle : plan.idle ≡ idle_positions S reserves
  pub reserve : (q : ℕ) → 1 ≤ q → q ≤ length reserves → plan.reserve q ≡ reserve_of reserves q
  pub start : (q : ℕ) → RingServer S reserves q → plan.start q ≡ start_of S reserves q
  pub first : (p : ℕ) → 1 ≤ p → p ≤ processors_of S reserves → plan.first p ≡ (first_reserve S reserves p).server
  pub duration : (p : ℕ) → 1 ≤ p → p ≤ processors_of S reserves → plan.duration p ≡ (first_reserve S reserves p).left
