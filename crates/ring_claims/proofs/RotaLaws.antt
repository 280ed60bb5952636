-- The printed plan unrolled is the answer to "who runs" at every tick.
-- Assumes nothing.
use Prim.Native.Nat.{ℕ, zero, suc, ◌+◌, ◌*◌, ◌-◌, ◌%◌, ◌≤◌, ◌<◌}
use mathlib.Core.Path.{◌≡◌, refl, sym, ap, ◌∙◌}
use mathlib.Core.List.{List}
use mathlib.Core.Bool.{Bool, true, false, cond}
use mathlib.Core.Logic.{⊎_elim}
use native.Mathlib.Nat.{le_trans, le_refl, le_of_eq, le-suc_iff, mod-lt, mod_self, mod-eq_of_lt, mod-add-mod, sub-zero}
use native.Mathlib.Numerals.{add-one}
use native.Mathlib.Omega.{arith}
use borrow.Author.Tests.{le-leb, lt-leb, lt-ltb, ltb-true, eq-eqb, eqb-true}
use lib.Dec.{ltb, eqb}
use lib.ListN.{length, take}
use Rattle.laws.proofs.Tests.{and_parts, and_both, true_false, never_true}
use Rattle.laws.proofs.Orders.{le_or_lt}
use Rattle.ring.specs.declared.clock.Tick.{Tick}
use Rattle.ring.specs.declared.cover.Stand.{Stand}
use Rattle.ring_claims.specs.Slotted.{Slotted}
use Rattle.reserves.specs.Reserves.{reserve_of, ring_ticks, start_of, ring_processors, ring_length, processors_of}
use Rattle.ring.specs.Phase.{phase}
use Rattle.ring.specs.Cover.{stand_at}
use Rattle.reserves.specs.Whole.{whole_server}
use Rattle.ring.specs.Who.{who_of, first_reserve}
use Rattle.ring_claims.specs.Serves.{RingServer}
use Rattle.ring_claims.specs.Held.{later}
use Rattle.ring_claims.specs.Rota.{Printed, PrintsRing, starts, starter, lasts, ends_at, begins_at, next_tick, unrolled}
use Rattle.reserves.proofs.Starts.{ring_nil, ring_more, ring_mono, ring_part, ring_holds}
use Rattle.ring.proofs.CoverLaws.{Covers, covers_there, covers_before, no_overlap, none_past}
use Rattle.ring.proofs.StandLaws.{stand_covered, stand_idle}
use Rattle.ring.proofs.PhaseLaws.{phase_below}
use Rattle.ring.proofs.WhoLaws.{who_ring, who_whole, first_who}
use Rattle.ring_claims.proofs.PhaseLaws.{phase_on}
use Rattle.ring_claims.proofs.ServeLaws.{stand_cases, stays}

module _ (S : ℕ) (rs : List ℕ) (res : Slotted S rs) (plan : Printed) (prints : PrintsRing S rs plan) where
  abbrev r : ℕ
  r = ring_processors S rs

  -- ---- who starts at a position

  -- server q stands on the ring, and starts here
  record Starts (at q : ℕ) : Type 0 where
    server : RingServer S rs q
    here : start_of S rs q ≡ at

  starts_told : (at q : ℕ) → 1 ≤ q → q ≤ length rs → starts plan at q ≡ true → Starts at q
  starts_told at q some there e =
      let a = and_parts (ltb (plan.reserve q) plan.slot) (eqb (plan.start q) at) e in
      let s : RingServer S rs q = record {
        some = some;
        there = there;
        ring = omega (arith, ltb-true (plan.reserve q) plan.slot a.0, prints.reserve q some there, prints.slot);
      } in
      record { server = s; here = sym (prints.start q s) ∙ eqb-true (plan.start q) at a.1 }

  starts_is : (at q : ℕ) → Starts at q → starts plan at q ≡ true
  starts_is at q f =
      let s = f.server in
      and_both
      (lt-ltb (plan.reserve q) plan.slot (omega (arith, s.ring, prints.reserve q s.some s.there, prints.slot)))
      (eq-eqb (plan.start q) at (prints.start q s ∙ f.here))

  -- who starts at a position covers it
  starts_covers : (at q : ℕ) → Starts at q → Covers S rs q at
  starts_covers at zero f = let s = f.server in absurd (omega (arith, s.some))
  starts_covers at (suc j) f =
      let s = f.server in
      record { ring = s.ring; from = le_of_eq f.here; before = omega (arith, f.here, res.some j s.there) }

  starter_suc : (at n : ℕ) (t : Bool) → starts plan at (suc n) ≡ t → starter plan at (suc n) ≡ cond t (suc n) (starter plan at n)
  unfolding starter
  starter_suc at n t e = rw e

  -- the one that starts there is found
  starter_is : (at q n : ℕ) → n ≤ length rs → q ≤ n → Starts at q → starter plan at n ≡ q
  starter_is at q zero b l f = let s = f.server in absurd (omega (arith, s.some))
  starter_is at q (suc n) b l f = by (λ k. starter_is at q n (omega arith) k f) (starts plan at (suc n)) refl
    where
      by : (q ≤ n → starter plan at n ≡ q) → (t : Bool) → starts plan at (suc n) ≡ t → starter plan at (suc n) ≡ q
      by fewer true e =
          let s = f.server in
          starter_suc at n true e ∙
          no_overlap S rs (suc n) q at (omega arith) s.some
          (starts_covers at (suc n) (starts_told at (suc n) (omega arith) b e))
          (starts_covers at q f)
      by fewer false e =
          starter_suc at n false e ∙
          ⊎_elim
          (λ (k : q ≤ n). fewer k)
          (λ (k : q ≡ suc n). true_false (sym (starts_is at q f) ∙ ap (starts plan at) k ∙ e))
          (le-suc_iff.0 l)

  -- and where none does, none
  starter_none : (at n : ℕ) → n ≤ length rs → ((q : ℕ) → Starts at q → ⊥) → starter plan at n ≡ 0
  unfolding starter
  starter_none at zero b none = refl
  starter_none at (suc n) b none =
      starter_suc at n false (never_true (starts plan at (suc n)) (λ e. none (suc n) (starts_told at (suc n) (omega arith) b e))) ∙
      starter_none at n (omega arith) none

  -- ---- what begins where a stretch ends is what stands there

  begins_as : (at q : ℕ) → starter plan at plan.servers ≡ q → begins_at plan at ≡ record { server = q; left = lasts plan q }
  unfolding begins_at
  begins_as at q e = rw e

  begins_by : (at q l : ℕ) → starter plan at (length rs) ≡ q → lasts plan q ≡ l → begins_at plan at ≡ record { server = q; left = l }
  begins_by at q l e f =
      begins_as at q (ap (starter plan at) prints.servers ∙ e) ∙ ap (λ (n : ℕ). record { server = q; left = n }) f

  -- the server that covers a position where reserves end starts there
  end_starts : (at k j : ℕ) → at ≡ ring_ticks S (take k rs) → Covers S rs (suc j) at → start_of S rs (suc j) ≡ at
  end_starts at k j e c =
      ⊎_elim
      (λ (l : k ≤ j). omega (arith, c.from, ring_mono S rs {i = k} {j = j} l))
      (λ (l : j < k). absurd (omega (arith, covers_before S rs j at c, ring_mono S rs {i = suc j} {j = k} l)))
      (le_or_lt k j)

  -- where the first k reserves end
  begins_stands : (at k : ℕ) → at ≡ ring_ticks S (take k rs) → begins_at plan at ≡ stand_at S rs (record { 0 = at })
  begins_stands at k e =
      ⊎_elim
      (λ (l : ring_ticks S rs ≤ at).
      let end : at ≡ ring_ticks S rs = omega (arith, ring_part S rs k) in
      let none : (q : ℕ) → Starts at q → ⊥ = λ q f. let s = f.server in none_past S rs q at s.some l (starts_covers at q f) in
      begins_by at 0 (ring_length S rs - at) (starter_none at (length rs) (le_refl (length rs)) none)
      (prints.idle ∙ ap (λ (n : ℕ). ring_length S rs - n) (sym end)) ∙
      sym (stand_idle S rs (record { 0 = at }) l))
      (λ (f : (j : ℕ) × Covers S rs (suc j) at).
      let j : ℕ = f.0 in
      let c = f.1 in
      let here : start_of S rs (suc j) ≡ at = end_starts at k j e c in
      let s : RingServer S rs (suc j) = record { some = omega arith; there = covers_there S rs j at c; ring = c.ring } in
      let own : plan.reserve (suc j) ≡ start_of S rs (suc j) + reserve_of rs (suc j) - at =
      omega (arith, prints.reserve (suc j) s.some s.there) in
      begins_by at (suc j) (start_of S rs (suc j) + reserve_of rs (suc j) - at)
      (starter_is at (suc j) (length rs) (le_refl (length rs)) s.there (record { server = s; here = here }))
      own ∙
      sym (stand_covered S rs (record { 0 = at }) j c))
      (stand_cases S rs at)

  -- ---- a tick of a ring processor

  -- the end of some reserves, or of the ring
  end_stands : (E k : ℕ) → E ≡ ring_ticks S (take k rs) → begins_at plan (E % ring_length S rs) ≡ stand_at S rs (record { 0 = E % ring_length S rs })
  end_stands E k e =
      ⊎_elim
      (λ (l : ring_length S rs ≤ E).
      let turned : E ≡ ring_length S rs = omega (arith, ring_part S rs k, ring_holds S rs res.slot_some) in
      begins_stands (E % ring_length S rs) 0 (ap (λ (n : ℕ). n % ring_length S rs) turned ∙ mod_self (ring_length S rs) ∙ sym (ring_nil S)))
      (λ (l : E < ring_length S rs). begins_stands (E % ring_length S rs) k (mod-eq_of_lt l ∙ e))
      (le_or_lt (ring_length S rs) E)

  ends_idle : begins_at plan (ends_at plan 0) ≡ stand_at S rs (record { 0 = 0 })
  ends_idle = begins_stands 0 0 (sym (ring_nil S))

  ends_server : (i : ℕ) → RingServer S rs (suc i) → ends_at plan (suc i) ≡ (start_of S rs (suc i) + reserve_of rs (suc i)) % ring_length S rs
  ends_server i s = rw (prints.start (suc i) s, prints.reserve (suc i) s.some s.there, prints.ring, prints.slot)

  -- at the last tick of a stretch
  after_stretch : (p : ℕ) (x : Tick) → 1 ≤ r → (stand_at S rs (phase S r p x)).left < 2 →
      begins_at plan (ends_at plan (stand_at S rs (phase S r p x)).server) ≡ stand_at S rs (phase S r p (later x 1))
  after_stretch p x h l =
      let b = phase_below S r p x res.slot_some h in
      ⊎_elim
      (λ (k : ring_ticks S rs ≤ (phase S r p x).0).
      let e = stand_idle S rs (phase S r p x) k in
      let el : (stand_at S rs (phase S r p x)).left ≡ r * S - (phase S r p x).0 = ap (λ (s : Stand). s.left) e in
      let end : (phase S r p x).0 + 1 ≡ ring_length S rs = omega arith in
      ap (λ (s : Stand). begins_at plan (ends_at plan s.server)) e ∙ ends_idle ∙
      sym (ap (stand_at S rs) (phase_on S r p 1 x) ∙ rw (end, mod_self (ring_length S rs))))
      (λ (f : (j : ℕ) × Covers S rs (suc j) (phase S r p x).0).
      let j : ℕ = f.0 in
      let c = f.1 in
      let there = covers_there S rs j (phase S r p x).0 c in
      let E : ℕ = start_of S rs (suc j) + reserve_of rs (suc j) in
      let e = stand_covered S rs (phase S r p x) j c in
      let el : (stand_at S rs (phase S r p x)).left ≡ E - (phase S r p x).0 = ap (λ (s : Stand). s.left) e in
      let end : (phase S r p x).0 + 1 ≡ E = omega (arith, c.before) in
      ap (λ (s : Stand). begins_at plan (ends_at plan s.server)) e ∙
      ap (begins_at plan) (ends_server j (record { some = omega arith; there = there; ring = c.ring })) ∙
      end_stands E (suc j) (sym (ring_more S rs j there c.ring)) ∙
      sym (ap (stand_at S rs) (phase_on S r p 1 x) ∙ rw end))
      (stand_cases S rs (phase S r p x).0)

  -- ---- a tick of any processor

  next_less : (p : ℕ) (s : Stand) → 2 ≤ s.left → next_tick plan p s ≡ record { server = s.server; left = s.left - 1 }
  unfolding next_tick
  next_less p s h = rw (le-leb 2 s.left h)

  next_ring : (p : ℕ) (s : Stand) → s.left < 2 → p ≤ r → next_tick plan p s ≡ begins_at plan (ends_at plan s.server)
  unfolding next_tick
  next_ring p s h l = rw (lt-leb 2 s.left h, le-leb p plan.ring (omega (arith, prints.ring)))

  next_whole : (p : ℕ) (s : Stand) → s.left < 2 → r < p → next_tick plan p s ≡ record { server = s.server; left = S }
  unfolding next_tick
  next_whole p s h l = rw (lt-leb 2 s.left h, lt-leb p plan.ring (omega (arith, prints.ring)), prints.slot)

  module _ (p : ℕ) (some : 1 ≤ p) where
    -- a slot begins again
    slot_again : (x : Tick) → r < p → (who_of S rs p x).left < 2 → who_of S rs p (later x 1) ≡ record { server = (who_of S rs p x).server; left = S }
    slot_again x l k =
        let e = who_whole S rs p x l in
        let el : (who_of S rs p x).left ≡ S - x.0 % S = ap (λ (s : Stand). s.left) e in
        let es : (who_of S rs p x).server ≡ whole_server S rs (p - r - 1) = ap (λ (s : Stand). s.server) e in
        let b : x.0 % S < S = mod-lt x.0 res.slot_some in
        let f : x.0 % S + 1 ≡ S = omega arith in
        let m : (x.0 + 1) % S ≡ 0 = sym (mod-add-mod x.0 S 1) ∙ ap (λ (n : ℕ). n % S) f ∙ mod_self S in
        who_whole S rs p (later x 1) l ∙ rw (m, es, sub-zero S)

    tick_on : (x : Tick) → next_tick plan p (who_of S rs p x) ≡ who_of S rs p (later x 1)
    tick_on x =
        ⊎_elim
        (λ (k : 2 ≤ (who_of S rs p x).left).
        let on = (stays S rs p x res.slot_some some).on in
        next_less p (who_of S rs p x) k ∙ sym (on 1 (omega arith)))
        (λ (k : (who_of S rs p x).left < 2).
        ⊎_elim
        (λ (l : p ≤ r).
        let e = who_ring S rs p x l in
        let k' : (stand_at S rs (phase S r p x)).left < 2 = rw e at k in
        next_ring p (who_of S rs p x) k l ∙ ap (λ (s : Stand). begins_at plan (ends_at plan s.server)) e ∙
        after_stretch p x (le_trans some l) k' ∙
        sym (who_ring S rs p (later x 1) l))
        (λ (l : r < p). next_whole p (who_of S rs p x) k l ∙ sym (slot_again x l k))
        (le_or_lt p r))
        (le_or_lt 2 (who_of S rs p x).left)

    first_printed : p ≤ processors_of S rs → unrolled plan p 0 ≡ first_reserve S rs p
    unfolding unrolled
    first_printed there = rw (prints.first p some there, prints.duration p some there)

    pub unrolled_who : p ≤ plan.ring + plan.whole → (x : ℕ) → unrolled plan p x ≡ who_of S rs p (record { 0 = x })
    unfolding unrolled
    unrolled_who there zero =
        first_printed (omega (arith, prints.ring, prints.whole)) ∙ first_who S rs p res.slot_some some
    unrolled_who there (suc x) =
        ap (next_tick plan p) (unrolled_who there x) ∙ tick_on (record { 0 = x }) ∙
        ap (λ (k : ℕ). who_of S rs p (record { 0 = k })) (add-one x)
