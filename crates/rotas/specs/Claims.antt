-- The note's demand 3 over any standing rota, each part under its own name. They are proved in proofs/Claims.antt.
-- Before the second slot nothing physical is promised: a processor may start inside a reserve whose entry nobody walked. Where a
-- claim is stated of every tick its arithmetic holds from tick 0 on; what is promised begins with the second slot all the same.
use Rattle.std.specs.Prelude.{ℕ, ◌-◌, ◌≤◌, ◌<◌, ◌≡◌, ◌↔◌}
use Rattle.demand.specs.Passes.{Passes}
use Rattle.ring.specs.declared.clock.Tick.{Tick}
use Rattle.reserves.specs.Reserves.{reserve_of}
use Rattle.ring_claims.specs.Slotted.{Slotted}
use Rattle.ring_claims.specs.Serves.{Serves, Usable, RingServer, WholeProcessor, OnBoard}
use Rattle.ring_claims.specs.Held.{held}
use Rattle.rotas.specs.Rota.{Rota, IsServer, Standing}
use Rattle.rotas.specs.Counted.{Counted, UsableWith, UsableOnce}

-- ---- one server a processor, one processor a server

-- at each tick a processor serves at most one server
abbrev pub OneServerAProcessor : Type 0
OneServerAProcessor =
    (rota : Rota) → Standing rota → (p q q' : ℕ) (x : Tick) →
    Serves rota.slot rota.reserves p q x → Serves rota.slot rota.reserves p q' x → q ≡ q'

-- and a server has at most one processor: signing never runs on two
abbrev pub OneProcessorAServer : Type 0
OneProcessorAServer =
    (rota : Rota) → Standing rota → (p p' q : ℕ) (x : Tick) →
    Serves rota.slot rota.reserves p q x → Serves rota.slot rota.reserves p' q x → p ≡ p'

-- ---- reserves

-- each reserve lies from 1 to the slot, as the rules of the ring ask
abbrev pub StandingSlotted : Type 0
StandingSlotted = (rota : Rota) → Standing rota → Slotted rota.slot rota.reserves

-- in any S consecutive ticks a server is on the board for exactly R of them
abbrev pub ReserveInAnySlot : Type 0
ReserveInAnySlot =
    (rota : Rota) → Standing rota → (q : ℕ) → IsServer rota q → (a : ℕ) →
    Counted (OnBoard rota.slot rota.reserves q) a rota.slot (reserve_of rota.reserves q)

-- and holds exactly R processor ticks
abbrev pub HeldInAnySlot : Type 0
HeldInAnySlot =
    (rota : Rota) → Standing rota → (q : ℕ) → IsServer rota q → (x : Tick) →
    held rota.slot rota.reserves q x rota.slot ≡ reserve_of rota.reserves q

-- a tick that is usable to a server is one at which some processor serves it
abbrev pub UsableIsServed : Type 0
UsableIsServed =
    (rota : Rota) → Standing rota → (q : ℕ) (x : Tick) → Usable rota.slot (rota.loss_of q) rota.reserves q x →
    OnBoard rota.slot rota.reserves q x

-- ---- windows

-- the ticks of a window that have P, counted one by one, cover server q's demand for its length
pub record CoveredWindow (rota : Rota) (q : ℕ) (P : Tick → Type 0) (a t : ℕ) : Type 0 where
  pub ticks : ℕ
  pub counted : Counted P a t ticks
  pub enough : rota.demand_of q t ≤ ticks

-- so they do in every window from the second slot on, any start and length
abbrev pub Covers : (rota : Rota) (q : ℕ) (P : Tick → Type 0) → Type 0
Covers rota q P = (a t : ℕ) → rota.slot ≤ a → CoveredWindow rota q P a t

-- in every window a server's usable ticks cover its demand
abbrev pub EveryWindowCovered : Type 0
EveryWindowCovered =
    (rota : Rota) → Standing rota → (q : ℕ) → IsServer rota q → Covers rota q (Usable rota.slot (rota.loss_of q) rota.reserves q)

-- a window from the second slot on in which the ticks that have P fall short of server q's demand for its length
pub record ShortWindow (rota : Rota) (q : ℕ) (P : Tick → Type 0) : Type 0 where
  pub from : ℕ
  pub long : ℕ
  pub ticks : ℕ
  pub second_slot : rota.slot ≤ from
  pub counted : Counted P from long ticks
  pub lacks : ticks < rota.demand_of q long

-- cut a ring reserve by one tick, with the other starts kept, and some window falls short
abbrev pub CutFallsShort : Type 0
CutFallsShort =
    (rota : Rota) → Standing rota → (q : ℕ) → RingServer rota.slot rota.reserves q →
    ShortWindow rota q (UsableWith rota.slot (rota.loss_of q) rota.reserves q (reserve_of rota.reserves q - 1))

-- give a whole-processor server any smaller reserve, standing once a slot from any start, and some window falls short
abbrev pub SmallerFallsShort : Type 0
SmallerFallsShort =
    (rota : Rota) → Standing rota → (q : ℕ) → WholeProcessor rota.slot rota.reserves q → (R start : ℕ) → R < rota.slot →
    ShortWindow rota q (UsableOnce rota.slot (rota.loss_of q) R start)

-- ---- the finite test and the rota say the same

-- a server passes with a reserve below a slot exactly when that reserve, once a slot from any start, covers every window;
-- and on a whole processor exactly when all ticks do
pub record SaySame (rota : Rota) (q : ℕ) : Type 0 where
  pub part : (R start : ℕ) → R < rota.slot →
      Passes (rota.demand_of q) rota.slot (rota.loss_of q) R ↔ Covers rota q (UsableOnce rota.slot (rota.loss_of q) R start)
  pub whole : Passes (rota.demand_of q) rota.slot (rota.loss_of q) rota.slot ↔ ((t : ℕ) → rota.demand_of q t ≤ t)

abbrev pub TestIsRota : Type 0
TestIsRota = (rota : Rota) → Standing rota → (q : ℕ) → IsServer rota q → SaySame rota q

-- The same with the rota in it. A ring server passes with a reserve up to its own exactly when that reserve, standing where the
-- server stands and with the other starts kept, covers every window.
abbrev pub TestIsRing : Type 0
TestIsRing =
    (rota : Rota) → Standing rota → (q : ℕ) → RingServer rota.slot rota.reserves q → (R : ℕ) → R ≤ reserve_of rota.reserves q →
    Passes (rota.demand_of q) rota.slot (rota.loss_of q) R
    ↔ Covers rota q (UsableWith rota.slot (rota.loss_of q) rota.reserves q R)

-- A whole-processor server passes with the whole slot exactly when the ticks at which its processor serves it cover every window;
-- and these are all ticks.
pub record OnOwnProcessor (rota : Rota) (q : ℕ) : Type 0 where
  pub processor : ℕ
  pub serves : (x : Tick) → Serves rota.slot rota.reserves processor q x
  pub same : Passes (rota.demand_of q) rota.slot (rota.loss_of q) rota.slot
      ↔ Covers rota q (Serves rota.slot rota.reserves processor q)

abbrev pub TestIsWhole : Type 0
TestIsWhole =
    (rota : Rota) → Standing rota → (q : ℕ) → WholeProcessor rota.slot rota.reserves q → OnOwnProcessor rota q

-- ---- counting

-- counting is exact: a window has one count
abbrev pub CountedOnce : Type 1
CountedOnce = (P : Tick → Type 0) (a t m n : ℕ) → Counted P a t m → Counted P a t n → m ≡ n
