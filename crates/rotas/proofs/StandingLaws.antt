-- What a standing rota has: reserves as the rules of the ring ask, each server on the ring with an allowed reserve or on a whole
-- processor, and one processor that serves a whole-processor server at every tick.
-- Assumes nothing.
use Prim.Native.Nat.{ℕ, suc, ◌≤◌, ◌<◌}
use mathlib.Core.Path.{◌≡◌}
use mathlib.Core.Logic.{◌⊎◌, inl, inr, ⊎_elim}
use native.Mathlib.Omega.{arith}
use lib.ListN.{length, get_or}
use Rattle.demand.specs.Supply.{Ring}
use Rattle.ring.specs.declared.clock.Tick.{Tick}
use Rattle.reserves.specs.Reserves.{reserve_of}
use Rattle.ring_claims.specs.Slotted.{Slotted}
use Rattle.ring_claims.specs.Serves.{RingServer, WholeProcessor, ServesOnRing, ServesWhole, Serves}
use Rattle.ring_claims.proofs.ServeLaws.{serves_covers}
use Rattle.ring_claims.proofs.Claims.{on_board_when}
use Rattle.rotas.specs.Rota.{Rota, IsServer, Standing}

module _ (rota : Rota) (stands : Standing rota) where
  -- the server at place i
  server_at_lem : (i : ℕ) → i < length rota.reserves → IsServer rota (suc i)
  server_at_lem i h = record { some = omega arith; there = omega arith }

  -- its reserve is at least 1 and at most the slot
  reserve_range : (i : ℕ) → i < length rota.reserves → (1 ≤ get_or rota.reserves i 0) × (get_or rota.reserves i 0 ≤ rota.slot)
  reserve_range i h =
      ⊎_elim
      (λ (r : Ring rota.slot (rota.loss_of (suc i)) (get_or rota.reserves i 0)). omega (arith, r.enters, r.parts))
      (λ (e : get_or rota.reserves i 0 ≡ rota.slot). omega (arith, stands.slot_some))
      (stands.servers (suc i) (server_at_lem i h)).smallest.allowed

  -- the reserves are as the rules of the ring ask
  pub slotted : Slotted rota.slot rota.reserves
  slotted = record {
    slot_some = stands.slot_some;
    some = λ i h. (reserve_range i h).0;
    within = λ i h. (reserve_range i h).1;
  }

  -- a server stands on the ring, with an allowed reserve, or has a whole processor
  pub ring_or_whole : (q : ℕ) → IsServer rota q →
      (RingServer rota.slot rota.reserves q × Ring rota.slot (rota.loss_of q) (reserve_of rota.reserves q))
      ⊎ WholeProcessor rota.slot rota.reserves q
  ring_or_whole q s =
      ⊎_elim
      (λ (r : Ring rota.slot (rota.loss_of q) (reserve_of rota.reserves q)).
      inl (record { some = s.some; there = s.there; ring = omega (arith, r.parts) }, r))
      (λ (e : reserve_of rota.reserves q ≡ rota.slot). inr (record { some = s.some; there = s.there; whole = e }))
      (stands.servers q s).smallest.allowed

  -- a whole-processor server has one processor at every tick
  pub own_processor : (q : ℕ) → WholeProcessor rota.slot rota.reserves q →
      (p : ℕ) × ((x : Tick) → Serves rota.slot rota.reserves p q x)
  own_processor q w =
      let b = (on_board_when rota.slot rota.reserves (record { 0 = 0 }) stands.slot_some).whole q w in (
        b.0,
        λ x.
            ⊎_elim
            (λ (a : ServesOnRing rota.slot rota.reserves b.0 q (record { 0 = 0 })).
            absurd (omega (arith, (serves_covers rota.slot rota.reserves a).ring, w.whole)))
            (λ (a : ServesWhole rota.slot rota.reserves b.0 q). inr a)
            b.1,
      )
