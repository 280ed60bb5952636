-- Which server a processor serves at a tick, and which ticks are usable to a server.
-- Document 01, "From tasks to servers to ring", rules 3 to 5 (RULES 3.3 to 3.5) and what follows them.
use Rattle.std.specs.Prelude.{ℕ, ◌+◌, ◌-◌, ◌%◌, ◌≤◌, ◌<◌, ◌≡◌, List, true, ◌⊎◌, length}
use Rattle.ring.specs.declared.clock.Tick.{Tick}
use Rattle.reserves.specs.Reserves.{reserve_of, start_of, ring_processors, processors_of}
use Rattle.ring.specs.Phase.{phase}
use Rattle.ring.specs.Cover.{covers}
use Rattle.reserves.specs.Whole.{whole_server}

-- server q is there, and stands on the ring
pub record RingServer (S : ℕ) (reserves : List ℕ) (q : ℕ) : Type 0 where
  pub some : 1 ≤ q
  pub there : q ≤ length reserves
  pub ring : reserve_of reserves q < S

-- server q is there, and has a whole processor
pub record WholeProcessor (S : ℕ) (reserves : List ℕ) (q : ℕ) : Type 0 where
  pub some : 1 ≤ q
  pub there : q ≤ length reserves
  pub whole : reserve_of reserves q ≡ S

-- a ring processor serves the server whose reserve covers its position
pub record ServesOnRing (S : ℕ) (reserves : List ℕ) (p q : ℕ) (x : Tick) : Type 0 where
  pub processor_some : 1 ≤ p
  pub on_ring : p ≤ ring_processors S reserves
  pub server_some : 1 ≤ q
  pub covered : covers S reserves q (phase S (ring_processors S reserves) p x) ≡ true

-- a processor past the ring serves its own server
pub record ServesWhole (S : ℕ) (reserves : List ℕ) (p q : ℕ) : Type 0 where
  pub past_ring : ring_processors S reserves < p
  pub processor_there : p ≤ processors_of S reserves
  pub server_some : 1 ≤ q
  pub own : q ≡ whole_server S reserves (p - ring_processors S reserves - 1)

abbrev pub Serves : (S : ℕ) (reserves : List ℕ) (p q : ℕ) → Tick → Type 0
Serves S reserves p q x = ServesOnRing S reserves p q x ⊎ ServesWhole S reserves p q

-- server q is on the board at a tick: some processor serves it
abbrev pub OnBoard : (S : ℕ) (reserves : List ℕ) (q : ℕ) → Tick → Type 0
OnBoard S reserves q x = (p : ℕ) × Serves S reserves p q x

-- some ring processor stands in the reserve of ring server q, at least L positions past its start
pub record UsableOnRing (S L : ℕ) (reserves : List ℕ) (q : ℕ) (x : Tick) (p : ℕ) : Type 0 where
  pub server : RingServer S reserves q
  pub processor_some : 1 ≤ p
  pub on_ring : p ≤ ring_processors S reserves
  pub passed : start_of S reserves q + L ≤ (phase S (ring_processors S reserves) p x).0
  pub before : (phase S (ring_processors S reserves) p x).0 < start_of S reserves q + reserve_of reserves q

-- a tick is usable to a ring server when it has passed at least L positions of its reserve; to a whole-processor server always
abbrev pub Usable : (S L : ℕ) (reserves : List ℕ) (q : ℕ) → Tick → Type 0
Usable S L reserves q x = ((p : ℕ) × UsableOnRing S L reserves q x p) ⊎ WholeProcessor S reserves q

-- x − start of q, modulo the slot: the positions of its reserve that q has passed at tick x, where it is on the board
abbrev pub since_start : (S : ℕ) (reserves : List ℕ) (q : ℕ) → Tick → ℕ
since_start S reserves q x = (x.0 + S - start_of S reserves q % S) % S
