-- Who serves whom: one server a processor, one processor a server, and the answer to "who runs" names it and stays.
-- Assumes nothing.
use Prim.Native.Nat.{ℕ, zero, suc, ◌+◌, ◌-◌, ◌%◌, ◌≤◌, ◌<◌}
use mathlib.Core.Path.{◌≡◌, sym, ap, subst, ◌∙◌}
use mathlib.Core.List.{List}
use mathlib.Core.Logic.{◌⊎◌, inl, inr, ⊎_elim}
use native.Mathlib.Nat.{le_trans, le_refl, mod-lt, mod-eq_of_lt, mod-add-mod, sub-add-eq}
use native.Mathlib.Numerals.{sub-one}
use native.Mathlib.Omega.{arith}
use lib.ListN.{length, get_or, take}
use lib.Seq.{take-length}
use Rattle.laws.proofs.Orders.{le_or_lt}
use Rattle.ring.specs.declared.clock.Tick.{Tick}
use Rattle.ring.specs.declared.clock.Position.{Position}
use Rattle.ring.specs.declared.cover.Stand.{Stand}
use Rattle.reserves.specs.Reserves.{reserve_of, ring_ticks, start_of, wholes, ring_processors, ring_length, processors_of}
use Rattle.ring.specs.Phase.{phase}
use Rattle.ring.specs.Cover.{coverer_up_to, stand_at}
use Rattle.reserves.specs.Whole.{whole_server}
use Rattle.ring.specs.Who.{who_of}
use Rattle.ring_claims.specs.Serves.{ServesOnRing, ServesWhole, Serves}
use Rattle.ring_claims.specs.Held.{later}
use Rattle.ring_claims.specs.Claims.{Answers, Stays}
use Rattle.reserves.proofs.Starts.{ring_more, ring_part, ring_holds}
use Rattle.ring.proofs.CoverLaws.{Covers, covers_told, covers_is, covers_there, no_overlap, found, coverer_is, coverer_covers}
use Rattle.ring.proofs.StandLaws.{stand_covered, stand_idle, stand_server}
use Rattle.ring_claims.proofs.OwnLaws.{whole_at, whole_once}
use Rattle.ring_claims.proofs.TurnLaws.{since, since_is}
use Rattle.ring.proofs.PhaseLaws.{phase_below}
use Rattle.ring_claims.proofs.PhaseLaws.{phase_agrees, phase_once, phase_later}
use Rattle.ring.proofs.WhoLaws.{who_ring, who_whole}

module _ (S : ℕ) (rs : List ℕ) where
  abbrev r : ℕ
  r = ring_processors S rs

  abbrev At : ℕ → Tick → ℕ
  At p x = (phase S r p x).0

  pub serves_covers : {p q : ℕ} {x : Tick} → ServesOnRing S rs p q x → Covers S rs q (At p x)
  serves_covers {p} {q} {x} s = covers_told S rs q (phase S r p x) s.covered

  -- how far into its reserve a ring server is: x − start, modulo the slot
  pub serves_since : {q π : ℕ} (x : ℕ) → 1 ≤ S → Covers S rs q π → π % S ≡ x % S → π ≡ start_of S rs q + since S (start_of S rs q) x
  serves_since {q} {π} x h c e =
      let s : ℕ = start_of S rs q in
      let d : s + (π - s) ≡ π = omega (arith, c.from) in
      let l : π - s < S = omega (arith, c.ring, c.before) in
      let i : since S s x ≡ π - s = since_is S h s x (π - s) l (ap (λ (n : ℕ). n % S) d ∙ e) in
      omega arith

  -- ---- whole processors

  -- the place among the whole processors of a processor past the ring
  place : {p q : ℕ} → ServesWhole S rs p q → p - r - 1 < wholes S rs
  place s = omega (arith, s.past_ring, s.processor_there)

  -- its server has a slot
  pub own_slot : {p q : ℕ} → ServesWhole S rs p q → S ≤ reserve_of rs q
  own_slot {p} {q} s =
      let f = whole_at S rs 1 (p - r - 1) (place s) in
      let e : q - 1 ≡ f.0 = omega (arith, s.own, f.2) in
      subst (λ (i : ℕ). S ≤ get_or rs i 0) (sym (sym (sub-one q) ∙ e)) f.3

  -- ---- one server a processor, one processor a server

  pub one_server : (p q q' : ℕ) (x : Tick) → Serves S rs p q x → Serves S rs p q' x → q ≡ q'
  one_server p q q' x s t =
      ⊎_elim
      (λ (a : ServesOnRing S rs p q x).
      ⊎_elim
      (λ (b : ServesOnRing S rs p q' x). no_overlap S rs q q' (At p x) a.server_some b.server_some (serves_covers a) (serves_covers b))
      (λ (b : ServesWhole S rs p q'). absurd (omega (arith, a.on_ring, b.past_ring)))
      t)
      (λ (a : ServesWhole S rs p q).
      ⊎_elim
      (λ (b : ServesOnRing S rs p q' x). absurd (omega (arith, b.on_ring, a.past_ring)))
      (λ (b : ServesWhole S rs p q'). a.own ∙ sym b.own)
      t)
      s

  module _ (h : 1 ≤ S) where
    both_ring : (p p' q : ℕ) (x : Tick) → ServesOnRing S rs p q x → ServesOnRing S rs p' q x → p ≡ p'
    both_ring p p' q x a b =
        let g : 1 ≤ r = le_trans a.processor_some a.on_ring in
        phase_once S r h p p' x a.processor_some a.on_ring b.processor_some b.on_ring
        (serves_since x.0 h (serves_covers a) (phase_agrees S r h p x g) ∙
        sym (serves_since x.0 h (serves_covers b) (phase_agrees S r h p' x g)))

    both_whole : (p p' q : ℕ) → ServesWhole S rs p q → ServesWhole S rs p' q → p ≡ p'
    both_whole p p' q a b =
        let e = whole_once S rs 1 (p - r - 1) (p' - r - 1) (place a) (place b) (sym a.own ∙ b.own) in
        omega (arith, a.past_ring, b.past_ring)

    -- a ring reserve is below a slot, a whole processor's is not
    never_both : (p p' q : ℕ) (x : Tick) → ServesOnRing S rs p q x → ServesWhole S rs p' q → ⊥
    never_both p p' q x a b = let c = serves_covers a in omega (arith, c.ring, own_slot b)

    pub one_processor : (p p' q : ℕ) (x : Tick) → Serves S rs p q x → Serves S rs p' q x → p ≡ p'
    one_processor p p' q x s t =
        ⊎_elim
        (λ (a : ServesOnRing S rs p q x).
        ⊎_elim (λ b. both_ring p p' q x a b) (λ (b : ServesWhole S rs p' q). absurd (never_both p p' q x a b)) t)
        (λ (a : ServesWhole S rs p q).
        ⊎_elim
        (λ (b : ServesOnRing S rs p' q x). absurd (never_both p' p q x b a))
        (λ (b : ServesWhole S rs p' q). both_whole p p' q a b)
        t)
        s

  -- ---- the answer

  module _ (p : ℕ) (x : Tick) (some : 1 ≤ p) (there : p ≤ processors_of S rs) where
    abbrev server : ℕ
    server = (who_of S rs p x).server

    ring_server : p ≤ r → server ≡ coverer_up_to S rs (phase S r p x) (length rs)
    ring_server l = ap (λ (s : Stand). s.server) (who_ring S rs p x l) ∙ stand_server S rs (phase S r p x)

    whole_server_lem : r < p → server ≡ whole_server S rs (p - r - 1)
    whole_server_lem l = ap (λ (s : Stand). s.server) (who_whole S rs p x l)

    -- who is named is served
    pub named_served : 1 ≤ server → Serves S rs p server x
    named_served k =
        ⊎_elim
        (λ (l : p ≤ r).
        let e = ring_server l in
        let c = (coverer_covers S rs (phase S r p x) (length rs) (omega arith)).1 in
        inl (record {
          processor_some = some;
          on_ring = l;
          server_some = k;
          covered = covers_is S rs server (phase S r p x) (subst (λ (q : ℕ). Covers S rs q (At p x)) (sym e) c);
        }))
        (λ (l : r < p). inr (record { past_ring = l; processor_there = there; server_some = k; own = whole_server_lem l }))
        (le_or_lt p r)

    -- and who is served is named
    pub served_named : (q : ℕ) → Serves S rs p q x → (1 ≤ q) × (server ≡ q)
    served_named q s =
        ⊎_elim
        (λ (a : ServesOnRing S rs p q x). (
          a.server_some,
          ring_server a.on_ring ∙
              coverer_is S rs (phase S r p x) (length rs) q a.server_some
              (server_there q a.server_some (serves_covers a))
              (serves_covers a),
        ))
        (λ (a : ServesWhole S rs p q). (a.server_some, whole_server_lem a.past_ring ∙ sym a.own))
        s
      where
        server_there : (q : ℕ) → 1 ≤ q → Covers S rs q (At p x) → q ≤ length rs
        server_there zero h c = absurd (omega arith)
        server_there (suc j) h c = covers_there S rs j (At p x) c

    pub answers : Answers S rs p x
    answers = record {
      names = λ q. (
        (λ (k : (1 ≤ q) × (server ≡ q)). subst (λ (n : ℕ). Serves S rs p n x) k.1 (named_served (omega (arith, k.0, k.1)))),
        served_named q,
      );
      idle = (
        (λ (e : server ≡ 0) (q : ℕ) (s : Serves S rs p q x). let n = served_named q s in omega (arith, n.0, n.1)),
        (λ (none : (q : ℕ) → Serves S rs p q x → ⊥).
            ⊎_elim (λ (k : 1 ≤ server). absurd (none server (named_served k))) (λ (k : server < 1). omega arith) (le_or_lt 1 server)),
      );
    }

  -- ---- the answer stays while ticks are left

  -- at each position a server covers, or it is past the reserves
  pub stand_cases : (π : ℕ) → (ring_ticks S rs ≤ π) ⊎ ((j : ℕ) × Covers S rs (suc j) π)
  stand_cases π =
      ⊎_elim
      (λ (l : ring_ticks S rs ≤ π). inl l)
      (λ (l : π < ring_ticks S rs).
      let f = found S rs (length rs) π (le_refl (length rs)) (rw (take-length rs) l) in
      inr (one f.0 f.1 f.3))
      (le_or_lt (ring_ticks S rs) π)
    where
      one : (q : ℕ) → 1 ≤ q → Covers S rs q π → (j : ℕ) × Covers S rs (suc j) π
      one zero h c = absurd (omega arith)
      one (suc j) h c = (j, c)

  -- the stretch at a position goes on, one position at a time, and ends on the ring
  pub record Steps (at : Position) : Type 0 where
    pub some : 1 ≤ (stand_at S rs at).left
    pub within : (j : ℕ) → j < (stand_at S rs at).left → at.0 + j < ring_length S rs
    pub on : (j : ℕ) → j < (stand_at S rs at).left →
        stand_at S rs (record { 0 = at.0 + j }) ≡ record { server = (stand_at S rs at).server; left = (stand_at S rs at).left - j }

  -- where every position from here to E has one server and E as its end
  steps_to : (at : Position) (q E : ℕ) → at.0 < E → E ≤ ring_length S rs → stand_at S rs at ≡ record { server = q; left = E - at.0 } →
      ((j : ℕ) → at.0 + j < E → stand_at S rs (record { 0 = at.0 + j }) ≡ record { server = q; left = E - (at.0 + j) }) → Steps at
  steps_to at q E l b here there =
      let el : (stand_at S rs at).left ≡ E - at.0 = ap (λ (s : Stand). s.left) here in
      let es : (stand_at S rs at).server ≡ q = ap (λ (s : Stand). s.server) here in
      record {
        some = omega arith;
        within = λ j k. omega arith;
        on = λ j k. there j (omega arith) ∙ rw (es, el, sub-add-eq E at.0 j);
      }

  pub stand_steps : (at : Position) → 1 ≤ S → at.0 < ring_length S rs → Steps at
  stand_steps at h l =
      ⊎_elim
      (λ (p : ring_ticks S rs ≤ at.0).
      steps_to at 0 (ring_length S rs) l (le_refl (ring_length S rs)) (stand_idle S rs at p)
      (λ j k. stand_idle S rs (record { 0 = at.0 + j }) (omega arith)))
      (λ (f : (j : ℕ) × Covers S rs (suc j) at.0).
      let i : ℕ = f.0 in
      let c = f.1 in
      let e : start_of S rs (suc i) + reserve_of rs (suc i) ≡ ring_ticks S (take (suc i) rs) = sym (ring_more S rs i (covers_there S rs i at.0 c) c.ring) in
      steps_to at (suc i) (start_of S rs (suc i) + reserve_of rs (suc i)) c.before
      (omega (arith, ring_part S rs (suc i), ring_holds S rs h))
      (stand_covered S rs at i c)
      (λ j k. stand_covered S rs (record { 0 = at.0 + j }) i (record { ring = c.ring; from = omega (arith, c.from); before = k })))
      (stand_cases at.0)

  module _ (p : ℕ) (x : Tick) (h : 1 ≤ S) where
    stays_ring : 1 ≤ p → p ≤ r → Stays S rs p x
    stays_ring some l =
        let e : who_of S rs p x ≡ stand_at S rs (phase S r p x) = who_ring S rs p x l in
        let steps = stand_steps (phase S r p x) h (phase_below S r p x h (le_trans some l)) in
        record {
          some = rw e steps.some;
          on = λ j k.
              let k' : j < (stand_at S rs (phase S r p x)).left = rw e at k in
              who_ring S rs p (later x j) l ∙ ap (stand_at S rs) (phase_later S r p j x (steps.within j k')) ∙ steps.on j k' ∙
              ap (λ (s : Stand). record { server = s.server; left = s.left - j }) (sym e);
        }

    stays_whole : r < p → Stays S rs p x
    stays_whole l =
        let ρ : ℕ = x.0 % S in
        let b : ρ < S = mod-lt x.0 h in
        let el : (who_of S rs p x).left ≡ S - ρ = ap (λ (s : Stand). s.left) (who_whole S rs p x l) in
        let es : (who_of S rs p x).server ≡ whole_server S rs (p - r - 1) = ap (λ (s : Stand). s.server) (who_whole S rs p x l) in
        record {
          some = omega arith;
          on = λ j k.
              let d : ρ + j < S = omega arith in
              let m : (x.0 + j) % S ≡ ρ + j = sym (mod-add-mod x.0 S j) ∙ mod-eq_of_lt d in
              who_whole S rs p (later x j) l ∙ rw (m, es, el, sub-add-eq S ρ j);
        }

    pub stays : 1 ≤ p → Stays S rs p x
    stays some = ⊎_elim (λ (l : p ≤ r). stays_ring some l) (λ (l : r < p). stays_whole l) (le_or_lt p r)
