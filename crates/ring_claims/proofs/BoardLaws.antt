-- When a server is on the board, and which of those ticks are usable to it: by x − start, modulo the slot.
-- Assumes nothing.
use Prim.Native.Nat.{ℕ, zero, suc, ◌+◌, ◌-◌, ◌≤◌, ◌<◌}
use mathlib.Core.Path.{◌≡◌, sym, ap, subst, ◌∙◌}
use mathlib.Core.List.{List}
use mathlib.Core.Logic.{inl, inr, ⊎_elim, ◌↔◌}
use native.Mathlib.Nat.{le_trans, le_of_eq}
use native.Mathlib.Omega.{arith}
use Rattle.laws.proofs.Orders.{le_or_lt}
use Rattle.ring.specs.declared.clock.Tick.{Tick}
use Rattle.reserves.specs.Reserves.{reserve_of, ring_ticks, start_of, ring_processors, ring_length}
use Rattle.ring.specs.Phase.{phase}
use Rattle.reserves.specs.Whole.{whole_server}
use Rattle.ring_claims.specs.Serves.{RingServer, WholeProcessor, ServesOnRing, ServesWhole, OnBoard, UsableOnRing, Usable, since_start}
use Rattle.ring_claims.specs.Claims.{Board}
use Rattle.reserves.proofs.Starts.{ring_holds}
use Rattle.ring.proofs.CoverLaws.{Covers, covers_is, none_past}
use Rattle.ring_claims.proofs.OwnLaws.{whole_has}
use Rattle.ring_claims.proofs.TurnLaws.{since_back}
use Rattle.ring_claims.proofs.PhaseLaws.{phase_agrees, phase_reached}
use Rattle.ring_claims.proofs.ServeLaws.{serves_covers, serves_since, own_slot}

module _ (S : ℕ) (rs : List ℕ) (x : Tick) (h : 1 ≤ S) where
  abbrev r : ℕ
  r = ring_processors S rs

  abbrev At : ℕ → ℕ
  At p = (phase S r p x).0

  -- a ring processor that stands in the reserve of q has passed `since_start` positions of it
  passed : (p q : ℕ) → 1 ≤ p → p ≤ r → Covers S rs q (At p) → At p ≡ start_of S rs q + since_start S rs q x
  passed p q some on c = serves_since S rs x.0 h c (phase_agrees S r h p x (le_trans some on))

  -- a ring processor stands there whenever that is below R
  stood : (q : ℕ) → RingServer S rs q → since_start S rs q x < reserve_of rs q →
      (p : ℕ) × (1 ≤ p) × (p ≤ r) × (At p ≡ start_of S rs q + since_start S rs q x) × Covers S rs q (At p)
  stood q s l =
      let π : ℕ = start_of S rs q + since_start S rs q x in
      let c : Covers S rs q π = record { ring = s.ring; from = omega arith; before = omega arith } in
      let b : π < ring_length S rs =
      ⊎_elim
      (λ (k : ring_ticks S rs ≤ π). absurd (none_past S rs q π s.some k c))
      (λ (k : π < ring_ticks S rs). omega (arith, ring_holds S rs h))
      (le_or_lt (ring_ticks S rs) π)
      in
      let f = phase_reached S r h π x b (since_back S h (start_of S rs q) x.0) in
      (f.0, f.1, f.2, f.3, subst (λ (n : ℕ). Covers S rs q n) (sym f.3) c)

  pub board_ring : (q : ℕ) → RingServer S rs q → OnBoard S rs q x ↔ (since_start S rs q x < reserve_of rs q)
  board_ring q s = (
    (λ (b : OnBoard S rs q x).
        ⊎_elim
        (λ (a : ServesOnRing S rs b.0 q x).
        let c = serves_covers S rs a in
        omega (arith, passed b.0 q a.processor_some a.on_ring c, c.before))
        (λ (a : ServesWhole S rs b.0 q). absurd (omega (arith, own_slot S rs a, s.ring)))
        b.1),
    (λ (l : since_start S rs q x < reserve_of rs q).
        let f = stood q s l in (
          f.0,
          inl (record {
            processor_some = f.1;
            on_ring = f.2;
            server_some = s.some;
            covered = covers_is S rs q (phase S r f.0 x) f.4;
          }),
        )),
  )

  pub board_whole : (q : ℕ) → WholeProcessor S rs q → OnBoard S rs q x
  board_whole zero s = absurd (omega (arith, s.some))
  board_whole (suc i) s =
      let f = whole_has S rs 1 i s.there (le_of_eq (sym s.whole)) in
      let e : r + 1 + f.0 - r - 1 ≡ f.0 = omega arith in (
        r + 1 + f.0,
        inr (record {
          past_ring = omega arith;
          processor_there = omega (arith, f.1);
          server_some = s.some;
          own = sym (ap (whole_server S rs) e ∙ f.2 ∙ omega arith);
        }),
      )

  pub board : Board S rs x
  board = record { ring = board_ring; whole = board_whole }

  pub usable_when : (L q : ℕ) → RingServer S rs q →
      Usable S L rs q x ↔ ((L ≤ since_start S rs q x) × (since_start S rs q x < reserve_of rs q))
  usable_when L q s = (
    (λ (u : Usable S L rs q x).
        ⊎_elim
        (λ (f : (p : ℕ) × UsableOnRing S L rs q x p).
        let a = f.1 in
        let c : Covers S rs q (At f.0) = record { ring = s.ring; from = omega (arith, a.passed); before = a.before } in
        let e = passed f.0 q a.processor_some a.on_ring c in
        (omega (arith, a.passed), omega (arith, a.before)))
        (λ (w : WholeProcessor S rs q). absurd (omega (arith, w.whole, s.ring)))
        u),
    (λ (k : (L ≤ since_start S rs q x) × (since_start S rs q x < reserve_of rs q)).
        let f = stood q s k.1 in
        inl (
          f.0,
          record {
            server = s;
            processor_some = f.1;
            on_ring = f.2;
            passed = omega (arith, f.3, k.0);
            before = f.4.before;
          },
        )),
  )
