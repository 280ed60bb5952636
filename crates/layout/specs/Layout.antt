-- The plan of a slot, a placement, its reserves and its cache costs: each server's places, reserve, ring start and cache cost, and the
-- first reserves.
-- Document 01, "From tasks to servers to ring" (RULES 3) and "Lines of hexadecimal" (RULES 5); document 02, Req 07.
use Rattle.std.specs.Prelude.{ℕ, pred, List, cond, length, get_or, ltb}
use Rattle.places.specs.Padded.{pad_with, padded, up_to}
use Rattle.places.specs.Places.{places_in}
use Rattle.reserves.specs.Reserves.{reserve_of, wholes, start_of, ring_processors, idle_positions, processors_of}
use Rattle.ring.specs.Who.{first_reserve}
use Rattle.plan.specs.declared.plan.Plan.{Plan}
use Rattle.plan.specs.declared.server.Server.{Server}
use Rattle.plan.specs.Plan.{zero_server, zero_stand}

-- where a server stands on the ring; a server with a whole processor stands nowhere and has 0
abbrev pub ring_start : (S : ℕ) (reserves : List ℕ) (q : ℕ) → ℕ
ring_start S reserves q = cond (ltb (reserve_of reserves q) S) (start_of S reserves q) 0

-- the cache cost of server q; servers count from 1
abbrev pub cost_of : (caches : List ℕ) → (q : ℕ) → ℕ
cost_of caches q = get_or caches (pred q) 0

-- server q of a slot, a placement, its reserves and its cache costs
abbrev pub server_of : (S : ℕ) → (caches placement reserves : List ℕ) → (q : ℕ) → Server
server_of S caches placement reserves q =
    record {
      count = length (places_in placement q);
      places = padded (places_in placement q);
      reserve = reserve_of reserves q;
      start = record { 0 = ring_start S reserves q };
      cache = cost_of caches q;
    }

-- the plan of a slot, a placement, its reserves and its cache costs
unfoldable pub laid_out : (S : ℕ) → (caches placement reserves : List ℕ) → Plan
laid_out S caches placement reserves =
    record {
      whole = wholes S reserves;
      ring = ring_processors S reserves;
      servers = length reserves;
      slot = S;
      idle = idle_positions S reserves;
      server = pad_with zero_server (up_to (server_of S caches placement reserves) (length reserves));
      placement = padded placement;
      first = pad_with zero_stand (up_to (first_reserve S reserves) (processors_of S reserves));
    }
