-- What is promised of the ring, in the words of document 01, rules 3 to 5 and the question "who runs".
-- The proofs stand in proofs/Claims.antt, one for each claim.
use Rattle.std.specs.Prelude.{ℕ, ◌+◌, ◌*◌, ◌-◌, ◌%◌, ◌≤◌, ◌<◌, ◌≡◌, List, true, ◌↔◌, length}
use Rattle.ring.specs.declared.clock.Tick.{Tick}
use Rattle.ring.specs.declared.clock.Position.{Position}
use Rattle.ring_claims.specs.Slotted.{Slotted}
use Rattle.reserves.specs.Reserves.{reserve_of, start_of, ring_ticks, ring_processors, ring_length, idle_positions, processors_of}
use Rattle.ring.specs.Phase.{phase}
use Rattle.ring.specs.Cover.{covers, coverer_up_to}
use Rattle.ring.specs.Who.{who_of, first_reserve}
use Rattle.ring_claims.specs.Serves.{RingServer, WholeProcessor, Serves, OnBoard, Usable, since_start}
use Rattle.ring_claims.specs.Held.{later, held}
use Rattle.ring_claims.specs.Rota.{Printed, PrintsRing, unrolled}

-- ---- rule 3: reserves stand one after another

-- no two servers cover one position
abbrev pub NoOverlap : Type 0
NoOverlap =
    (S : ℕ) (reserves : List ℕ) (q q' : ℕ) (at : Position) → 1 ≤ q → 1 ≤ q' → covers S reserves q at ≡ true → covers S reserves q' at ≡ true → q ≡ q'

-- q is there and covers the position, and no other server does
pub record CoveredOnce (S : ℕ) (reserves : List ℕ) (at : Position) (q : ℕ) : Type 0 where
  pub server : RingServer S reserves q
  pub covering : covers S reserves q at ≡ true
  pub only : (q' : ℕ) → 1 ≤ q' → covers S reserves q' at ≡ true → q' ≡ q

-- the coverer named is 0, and no server covers the position
pub record CoveredNever (S : ℕ) (reserves : List ℕ) (at : Position) : Type 0 where
  pub named : coverer_up_to S reserves at (length reserves) ≡ 0
  pub none : (q : ℕ) → 1 ≤ q → covers S reserves q at ≡ true → ⊥

-- the reserves fill the positions below their sum, each covered once; the rest, less than a slot, is idle
pub record FilledRing (S : ℕ) (reserves : List ℕ) : Type 0 where
  pub below : (at : Position) → at.0 < ring_ticks S reserves → CoveredOnce S reserves at (coverer_up_to S reserves at (length reserves))
  pub past : (at : Position) → ring_ticks S reserves ≤ at.0 → CoveredNever S reserves at
  pub holds : ring_ticks S reserves ≤ ring_length S reserves
  pub tight : ring_length S reserves < ring_ticks S reserves + S

abbrev pub Filled : Type 0
Filled = (S : ℕ) (reserves : List ℕ) → 1 ≤ S → FilledRing S reserves

-- no ring servers: r = 0, no idle positions
abbrev pub NoRing : Type 0
NoRing =
    (S : ℕ) (reserves : List ℕ) → 1 ≤ S → ((q : ℕ) → RingServer S reserves q → ⊥) → (ring_processors S reserves ≡ 0) × (idle_positions S reserves ≡ 0)

-- ---- rule 5: the first reserve of ring processor p

-- server q covers position (p − 1)·S, and `left` are the ticks to its reserve's end, at least 1 and at most R.
-- Where a reserve ends exactly at that position, the first reserve is the next server's, and whole.
pub record First (S : ℕ) (reserves : List ℕ) (p q left : ℕ) : Type 0 where
  pub server : RingServer S reserves q
  pub covering : covers S reserves q (record { 0 = (p - 1) * S }) ≡ true
  pub to_end : (p - 1) * S + left ≡ start_of S reserves q + reserve_of reserves q
  pub some : 1 ≤ left
  pub within : left ≤ reserve_of reserves q
  pub boundary : (q' : ℕ) → RingServer S reserves q' → start_of S reserves q' + reserve_of reserves q' ≡ (p - 1) * S →
      (start_of S reserves q ≡ (p - 1) * S) × (left ≡ reserve_of reserves q)

abbrev pub FirstReserve : Type 0
FirstReserve =
    (S : ℕ) (reserves : List ℕ) (p : ℕ) → 1 ≤ S → 1 ≤ p → p ≤ ring_processors S reserves →
    First S reserves p (first_reserve S reserves p).server (first_reserve S reserves p).left

-- ---- rule 4: the phase

-- at each tick the r processors stand on the positions of one residue modulo the slot, one on each
pub record Phases (S r : ℕ) : Type 0 where
  pub below : (p : ℕ) (x : Tick) → 1 ≤ p → p ≤ r → (phase S r p x).0 < r * S
  pub agrees : (p : ℕ) (x : Tick) → 1 ≤ p → p ≤ r → (phase S r p x).0 % S ≡ x.0 % S
  pub reached : (π : ℕ) (x : Tick) → π < r * S → π % S ≡ x.0 % S → (p : ℕ) × (1 ≤ p) × (p ≤ r) × ((phase S r p x).0 ≡ π)
  pub once : (p p' : ℕ) (x : Tick) → 1 ≤ p → p ≤ r → 1 ≤ p' → p' ≤ r → (phase S r p x).0 ≡ (phase S r p' x).0 → p ≡ p'

abbrev pub PhaseExact : Type 0
PhaseExact = (S r : ℕ) → 1 ≤ S → Phases S r

-- ---- who runs

-- a processor serves one server at a time
abbrev pub OneServer : Type 0
OneServer =
    (S : ℕ) (reserves : List ℕ) (p q q' : ℕ) (x : Tick) → Serves S reserves p q x → Serves S reserves p q' x → q ≡ q'

-- a server is never on two processors at once
abbrev pub OneProcessor : Type 0
OneProcessor =
    (S : ℕ) (reserves : List ℕ) (p p' q : ℕ) (x : Tick) → 1 ≤ S → Serves S reserves p q x → Serves S reserves p' q x → p ≡ p'

-- the answer names server q exactly where processor p serves it, and 0 exactly where p serves nobody
pub record Answers (S : ℕ) (reserves : List ℕ) (p : ℕ) (x : Tick) : Type 0 where
  pub names : (q : ℕ) → ((1 ≤ q) × ((who_of S reserves p x).server ≡ q)) ↔ Serves S reserves p q x
  pub idle : ((who_of S reserves p x).server ≡ 0) ↔ ((q : ℕ) → Serves S reserves p q x → ⊥)

abbrev pub WhoServes : Type 0
WhoServes =
    (S : ℕ) (reserves : List ℕ) (p : ℕ) (x : Tick) → 1 ≤ p → p ≤ processors_of S reserves → Answers S reserves p x

-- at least this tick is left, and for as long as ticks are left the answer stays and counts down
pub record Stays (S : ℕ) (reserves : List ℕ) (p : ℕ) (x : Tick) : Type 0 where
  pub some : 1 ≤ (who_of S reserves p x).left
  pub on : (j : ℕ) → j < (who_of S reserves p x).left →
      who_of S reserves p (later x j) ≡ record { server = (who_of S reserves p x).server; left = (who_of S reserves p x).left - j }

abbrev pub WhoStays : Type 0
WhoStays =
    (S : ℕ) (reserves : List ℕ) (p : ℕ) (x : Tick) → 1 ≤ S → 1 ≤ p → p ≤ processors_of S reserves → Stays S reserves p x

-- on a ring processor the position and the ticks left come to the end of the reserve, or, while it is idle, to the ring's end;
-- on a whole processor S − x mod S are left
pub record Left (S : ℕ) (reserves : List ℕ) (p : ℕ) (x : Tick) : Type 0 where
  pub reserve : p ≤ ring_processors S reserves → (q : ℕ) → 1 ≤ q → (who_of S reserves p x).server ≡ q →
      (phase S (ring_processors S reserves) p x).0 + (who_of S reserves p x).left ≡ start_of S reserves q + reserve_of reserves q
  pub idle : p ≤ ring_processors S reserves → (who_of S reserves p x).server ≡ 0 →
      (phase S (ring_processors S reserves) p x).0 + (who_of S reserves p x).left ≡ ring_length S reserves
  pub whole : ring_processors S reserves < p → (who_of S reserves p x).left ≡ S - x.0 % S

abbrev pub TicksLeft : Type 0
TicksLeft =
    (S : ℕ) (reserves : List ℕ) (p : ℕ) (x : Tick) → 1 ≤ S → 1 ≤ p → p ≤ processors_of S reserves → Left S reserves p x

-- the printed plan, unrolled from each processor's first server and duration, is the answer at every tick of all time
abbrev pub RotaUnrolled : Type 0
RotaUnrolled =
    (plan : Printed) (S : ℕ) (reserves : List ℕ) (p x : ℕ) → Slotted S reserves → PrintsRing S reserves plan → 1 ≤ p →
    p ≤ plan.ring + plan.whole → unrolled plan p x ≡ who_of S reserves p (record { 0 = x })

-- ---- a server's ticks

-- a ring server is on the board while x − start, modulo the slot, is below R; a whole processor's server always
pub record Board (S : ℕ) (reserves : List ℕ) (x : Tick) : Type 0 where
  pub ring : (q : ℕ) → RingServer S reserves q → OnBoard S reserves q x ↔ (since_start S reserves q x < reserve_of reserves q)
  pub whole : (q : ℕ) → WholeProcessor S reserves q → OnBoard S reserves q x

abbrev pub OnBoardWhen : Type 0
OnBoardWhen = (S : ℕ) (reserves : List ℕ) (x : Tick) → 1 ≤ S → Board S reserves x

-- and the tick is usable to a ring server from L on
abbrev pub UsableWhen : Type 0
UsableWhen =
    (S L : ℕ) (reserves : List ℕ) (q : ℕ) (x : Tick) → 1 ≤ S → RingServer S reserves q →
    Usable S L reserves q x ↔ ((L ≤ since_start S reserves q x) × (since_start S reserves q x < reserve_of reserves q))

-- in any S consecutive ticks a server holds exactly R processor ticks
abbrev pub HeldInSlot : Type 0
HeldInSlot =
    (S : ℕ) (reserves : List ℕ) (q : ℕ) (x : Tick) → Slotted S reserves → 1 ≤ q → q ≤ length reserves → held S reserves q x S ≡ reserve_of reserves q
