-- What follows a stretch on a ring processor: what stands behind it, and never the same server; and the tick after a tick.
-- Assumes nothing.
use Prim.Native.Nat.{ℕ, zero, suc, ◌+◌, ◌*◌, ◌-◌, ◌%◌, ◌≤◌, ◌<◌}
use mathlib.Core.Path.{◌≡◌, refl, sym, ap, subst, ◌∙◌}
use mathlib.Core.List.{List}
use mathlib.Core.Bool.{true, false, not}
use mathlib.Core.Logic.{⊎_elim}
use native.Mathlib.Nat.{le_trans, mod_self, mod-eq_of_lt, mul-le-mul_right}
use native.Mathlib.Numerals.{add-one}
use native.Mathlib.Omega.{arith}
use borrow.Author.Tests.{eq-eqb, ne_eqb}
use lib.ListN.{length, take}
use Rattle.laws.proofs.Orders.{le_or_lt}
use Rattle.reserves.specs.Reserves.{reserve_of, ring_ticks, ring_processors, ring_length}
use Rattle.ring.specs.declared.clock.Position.{Position}
use Rattle.ring.specs.declared.cover.Stand.{Stand}
use Rattle.ring.specs.Phase.{phase}
use Rattle.ring.specs.Cover.{stand_at}
use Rattle.ring.specs.Who.{who_of}
use Rattle.ring_claims.specs.Slotted.{Slotted}
use Rattle.turn.specs.Stretch.{end_of, stand_after, Stretched}
use Rattle.turn.specs.Switches.{runs, switches}
use Rattle.reserves.proofs.Starts.{ring_more, ring_part, ring_holds, ring_least}
use Rattle.ring.proofs.CoverLaws.{Covers, covers_there, coverer_covers}
use Rattle.ring.proofs.StandLaws.{stand_covered, stand_idle, stand_server}
use Rattle.ring.proofs.PhaseLaws.{phase_below}
use Rattle.ring.proofs.WhoLaws.{who_ring}
use Rattle.ring_claims.proofs.PhaseLaws.{phase_on}
use Rattle.ring_claims.proofs.ServeLaws.{stand_cases, stays}
use Rattle.ring_claims.proofs.LeftLaws as left-laws

module _ (S : ℕ) (rs : List ℕ) where
  abbrev r : ℕ
  r = ring_processors S rs

  -- the ticks that are left at tick x of what runs on processor p
  abbrev pub left_of : (p x : ℕ) → ℕ
  left_of p x = (who_of S rs p (record { 0 = x })).left

  -- ---- behind a stretch stands another

  -- a server that stands at a position covers it
  stands_covers : (at : Position) (i : ℕ) → (stand_at S rs at).server ≡ suc i → Covers S rs (suc i) at.0
  stands_covers at i e =
      let f = sym (stand_server S rs at) ∙ e in
      subst (λ (q : ℕ). Covers S rs q at.0) f (coverer_covers S rs at (length rs) (omega arith)).1

  -- at position 0 a server stands
  first_stands : 1 ≤ S → 1 ≤ r → (stand_at S rs (record { 0 = 0 })).server ≡ 0 → ⊥
  first_stands h g e =
      ⊎_elim
      (λ (l : ring_ticks S rs ≤ 0). omega (arith, ring_least S rs {k = 0} h g))
      (λ (f : (j : ℕ) × Covers S rs (suc j) 0).
      omega (arith, ap (λ (s : Stand). s.server) (stand_covered S rs (record { 0 = 0 }) f.0 f.1)))
      (stand_cases S rs 0)

  -- what follows stands where the stretch ends, on the ring
  pub after_at : (q at : ℕ) → end_of S rs q % ring_length S rs ≡ at → stand_after S rs q ≡ stand_at S rs (record { 0 = at })
  unfolding stand_after
  after_at q at e = rw e

  -- the stretch of a server ends where the reserves up to it do
  pub end_ticks : (i : ℕ) → Stretched S rs (suc i) → end_of S rs (suc i) ≡ ring_ticks S (take (suc i) rs)
  end_ticks i there = sym (ring_more S rs i there.there (there.ring (omega arith)))

  -- behind a stretch another server stands: behind a server's reserve a later server or the idle positions, or the ring begins
  -- again, which no reserve fills alone; behind the idle positions a server
  pub after_differs : (q : ℕ) → 1 ≤ S → 1 ≤ r → Stretched S rs q → (stand_after S rs q).server ≡ q → ⊥
  after_differs zero h g there e =
      first_stands h g (sym (ap (λ (s : Stand). s.server) (after_at 0 0 (mod_self (ring_length S rs)))) ∙ e)
  after_differs (suc i) h g there e =
      let E : ℕ = end_of S rs (suc i) in
      let ring : reserve_of rs (suc i) < S = there.ring (omega arith) in
      let ends : E ≡ ring_ticks S (take (suc i) rs) = end_ticks i there in
      ⊎_elim
      (λ (l : ring_length S rs ≤ E).
      let turned : E ≡ ring_length S rs = omega (arith, ring_part S rs (suc i), ring_holds S rs h) in
      let zeroth : E % ring_length S rs ≡ 0 = ap (λ (n : ℕ). n % ring_length S rs) turned ∙ mod_self (ring_length S rs) in
      let c = stands_covers (record { 0 = 0 }) i (sym (ap (λ (s : Stand). s.server) (after_at (suc i) 0 zeroth)) ∙ e) in
      let slot : 1 * S ≤ r * S = mul-le-mul_right S g in
      omega (arith, c.from))
      (λ (l : E < ring_length S rs).
      let c = stands_covers (record { 0 = E }) i (sym (ap (λ (s : Stand). s.server) (after_at (suc i) E (mod-eq_of_lt l))) ∙ e) in
      omega (arith, c.before))
      (le_or_lt (ring_length S rs) E)

  module _ (p x : ℕ) where
    abbrev At : ℕ
    At = (phase S r p (record { 0 = x })).0

    -- the position and the ticks left come to the end of the stretch
    pub left_end : 1 ≤ S → 1 ≤ p → p ≤ r → At + left_of p x ≡ end_of S rs (runs S rs p x)
    left_end h some l = by (runs S rs p x) refl
      where
        by : (q : ℕ) → runs S rs p x ≡ q → At + left_of p x ≡ end_of S rs q
        by zero e = (left-laws.left S rs p (record { 0 = x }) h some).idle l e
        by (suc q) e = (left-laws.left S rs p (record { 0 = x }) h some).reserve l (suc q) (omega arith) e

    -- when they have passed, what stands behind the stretch runs
    pub who_next : 1 ≤ S → 1 ≤ p → p ≤ r → who_of S rs p (record { 0 = x + left_of p x }) ≡ stand_after S rs (runs S rs p x)
    unfolding stand_after
    who_next h some l =
        who_ring S rs p (record { 0 = x + left_of p x }) l ∙
        ap (stand_at S rs) (phase_on S r p (left_of p x) (record { 0 = x })) ∙
        ap (λ (n : ℕ). stand_at S rs (record { 0 = n % ring_length S rs })) (left_end h some l)

    -- at least this tick is left
    pub left_some : 1 ≤ S → 1 ≤ p → 1 ≤ left_of p x
    left_some h some = (stays S rs p (record { 0 = x }) h some).some

    module _ (res : Slotted S rs) (some : 1 ≤ p) (on_ring : p ≤ r) where
      -- what runs has a stretch
      pub running_stretched : Stretched S rs (runs S rs p x)
      running_stretched =
          ⊎_elim
          (λ (k : ring_ticks S rs ≤ At).
          let e : runs S rs p x ≡ 0 = ap (λ (s : Stand). s.server) (who ∙ stand_idle S rs (phase S r p (record { 0 = x })) k) in
          let b = phase_below S r p (record { 0 = x }) res.slot_some (le_trans some on_ring) in
          record { there = omega arith; idle = λ z. omega arith; ring = λ z. absurd (omega arith) })
          (λ (f : (j : ℕ) × Covers S rs (suc j) At).
          let j : ℕ = f.0 in
          let c = f.1 in
          let e : runs S rs p x ≡ suc j = ap (λ (s : Stand). s.server) (who ∙ stand_covered S rs (phase S r p (record { 0 = x })) j c) in
          subst (Stretched S rs) (sym e)
          (record { there = covers_there S rs j At c; idle = λ z. absurd (omega arith); ring = λ z. c.ring }))
          (stand_cases S rs At)
        where
          who : who_of S rs p (record { 0 = x }) ≡ stand_at S rs (phase S r p (record { 0 = x }))
          who = who_ring S rs p (record { 0 = x }) on_ring

      -- where a stretch ends, another server's begins
      pub stretches_differ : runs S rs p (x + left_of p x) ≡ runs S rs p x → ⊥
      stretches_differ e =
          after_differs (runs S rs p x) res.slot_some (le_trans some on_ring) running_stretched
          (sym (ap (λ (s : Stand). s.server) (who_next res.slot_some some on_ring)) ∙ e)

      -- ---- the tick after a tick

      -- the stretch ends: the processor switches, to what stands behind it
      pub steps_over : x + left_of p x ≡ suc x →
          (switches S rs p (suc x) ≡ true) × (who_of S rs p (record { 0 = suc x }) ≡ stand_after S rs (runs S rs p x))
      unfolding switches
      steps_over e = (
        ap not
            (ne_eqb (runs S rs p (suc x)) (runs S rs p x)
            (λ (same : runs S rs p (suc x) ≡ runs S rs p x). stretches_differ (ap (runs S rs p) e ∙ same))),
        ap (λ (n : ℕ). who_of S rs p (record { 0 = n })) (sym e) ∙ who_next res.slot_some some on_ring,
      )

      -- the stretch goes on: the processor does not switch, and its server and end stay
      pub steps_on : suc x < x + left_of p x →
          (switches S rs p (suc x) ≡ false) × (runs S rs p (suc x) ≡ runs S rs p x) × (suc x + left_of p (suc x) ≡ x + left_of p x)
      unfolding switches
      steps_on l =
          let on : who_of S rs p (record { 0 = suc x }) ≡ record { server = runs S rs p x; left = left_of p x - 1 } =
          ap (λ (n : ℕ). who_of S rs p (record { 0 = n })) (sym (add-one x)) ∙
          (stays S rs p (record { 0 = x }) res.slot_some some).on 1 (omega arith) in
          let same : runs S rs p (suc x) ≡ runs S rs p x = ap (λ (s : Stand). s.server) on in
          let less : left_of p (suc x) ≡ left_of p x - 1 = ap (λ (s : Stand). s.left) on in
          (ap not (eq-eqb (runs S rs p (suc x)) (runs S rs p x) same), same, omega arith)
