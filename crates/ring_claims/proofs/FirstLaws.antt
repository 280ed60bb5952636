-- The reserves fill the ring up to their sum, and each ring processor has a first reserve of at least one tick.
-- Assumes nothing.
use Prim.Native.Nat.{ℕ, zero, suc, ◌+◌, ◌*◌, ◌-◌, ◌≤◌, ◌<◌}
use mathlib.Core.Path.{◌≡◌, sym, ap, subst, ◌∙◌}
use mathlib.Core.List.{List}
use mathlib.Core.Logic.{⊎_elim}
use native.Mathlib.Nat.{le_refl, zero-mul}
use native.Mathlib.Omega.{arith}
use lib.ListN.{length, get_or, take}
use lib.Seq.{take-length}
use Rattle.laws.proofs.Orders.{le_or_lt}
use Rattle.ring.specs.declared.clock.Position.{Position}
use Rattle.ring.specs.declared.cover.Stand.{Stand}
use Rattle.reserves.specs.Reserves.{reserve_of, ring_ticks, start_of, ring_processors, ring_length, idle_positions}
use Rattle.ring.specs.Cover.{coverer_up_to}
use Rattle.ring.specs.Who.{first_reserve}
use Rattle.ring_claims.specs.Serves.{RingServer}
use Rattle.ring_claims.specs.Claims.{CoveredOnce, CoveredNever, FilledRing, First}
use Rattle.reserves.proofs.Starts.{ring_more, ring_mono, ring_holds, ring_least, ring_tight}
use Rattle.ring.proofs.CoverLaws.{Covers, covers_told, covers_is, covers_there, covers_before, no_overlap, none_past, found, coverer_is, coverer_none}
use Rattle.ring.proofs.StandLaws.{stand_covered}
use Rattle.ring.proofs.WhoLaws.{first_ring}

module _ (S : ℕ) (rs : List ℕ) where
  -- below the sum of the reserves a ring server covers
  pub covered : (π : ℕ) → π < ring_ticks S rs → (q : ℕ) × RingServer S rs q × Covers S rs q π
  covered π l =
      let f = found S rs (length rs) π (le_refl (length rs)) (rw (take-length rs) l) in
      let c = f.3 in
      (f.0, record { some = f.1; there = f.2; ring = c.ring }, c)

  covered_once : (at : Position) → at.0 < ring_ticks S rs → CoveredOnce S rs at (coverer_up_to S rs at (length rs))
  covered_once at l =
      let f = covered at.0 l in
      let s = f.1 in
      let e : coverer_up_to S rs at (length rs) ≡ f.0 = coverer_is S rs at (length rs) f.0 s.some s.there f.2 in
      subst (λ (q : ℕ). CoveredOnce S rs at q) (sym e)
      (record {
        server = s;
        covering = covers_is S rs f.0 at f.2;
        only = λ q k c. no_overlap S rs q f.0 at.0 k s.some (covers_told S rs q at c) f.2;
      })

  covered_never : (at : Position) → ring_ticks S rs ≤ at.0 → CoveredNever S rs at
  covered_never at l = record {
    named = coverer_none S rs at (length rs) l;
    none = λ q k c. none_past S rs q at.0 k l (covers_told S rs q at c);
  }

  pub filled_ring : 1 ≤ S → FilledRing S rs
  filled_ring h = record { below = covered_once; past = covered_never; holds = ring_holds S rs h; tight = ring_tight S rs h }

  -- with no ring server there is no ring
  module _ (h : 1 ≤ S) (none : (q : ℕ) → RingServer S rs q → ⊥) where
    no_ticks : ring_ticks S rs ≡ 0
    no_ticks =
        ⊎_elim
        (λ (l : 1 ≤ ring_ticks S rs). let f = covered 0 l in absurd (none f.0 f.1))
        (λ (l : ring_ticks S rs < 1). omega arith)
        (le_or_lt 1 (ring_ticks S rs))

    pub no_processors : ring_processors S rs ≡ 0
    no_processors =
        ⊎_elim
        (λ (l : 1 ≤ ring_processors S rs). absurd (omega (arith, no_ticks, ring_least S rs {k = 0} h l)))
        (λ (l : ring_processors S rs < 1). omega arith)
        (le_or_lt 1 (ring_processors S rs))

    pub no_idle : idle_positions S rs ≡ 0
    no_idle =
        let e : ring_length S rs ≡ 0 = ap (λ (k : ℕ). k * S) no_processors ∙ zero-mul S in
        omega (arith, no_ticks)

  -- ---- the first reserve

  reserve_end : (j : ℕ) → j < length rs → get_or rs j 0 < S → start_of S rs (suc j) + reserve_of rs (suc j) ≡ ring_ticks S (take (suc j) rs)
  reserve_end j h l = sym (ring_more S rs j h l)

  -- where another reserve ends at a position, the server that covers it starts there
  starts_there : (j k π : ℕ) → Covers S rs (suc j) π → RingServer S rs (suc k) →
      start_of S rs (suc k) + reserve_of rs (suc k) ≡ π → start_of S rs (suc j) ≡ π
  starts_there j k π c s e =
      let t : ring_ticks S (take (suc k) rs) ≡ π = sym (reserve_end k s.there s.ring) ∙ e in
      ⊎_elim
      (λ (l : j ≤ k). absurd (omega (arith, covers_before S rs j π c, ring_mono S rs {i = suc j} {j = suc k} (omega arith))))
      (λ (l : k < j). omega (arith, c.from, ring_mono S rs {i = suc k} {j = j} l))
      (le_or_lt j k)

  module _ (p : ℕ) where
    first_of : (j : ℕ) → Covers S rs (suc j) ((p - 1) * S) →
        First S rs p (suc j) (start_of S rs (suc j) + reserve_of rs (suc j) - (p - 1) * S)
    first_of j c = record {
      server = record { some = omega arith; there = covers_there S rs j ((p - 1) * S) c; ring = c.ring };
      covering = covers_is S rs (suc j) (record { 0 = (p - 1) * S }) c;
      to_end = omega (arith, c.before);
      some = omega (arith, c.before);
      within = omega (arith, c.from);
      boundary = ends;
    }
      where
        ends : (q : ℕ) → RingServer S rs q → start_of S rs q + reserve_of rs q ≡ (p - 1) * S →
            (start_of S rs (suc j) ≡ (p - 1) * S) ×
            (start_of S rs (suc j) + reserve_of rs (suc j) - (p - 1) * S ≡ reserve_of rs (suc j))
        ends zero s e = absurd (omega (arith, s.some))
        ends (suc k) s e =
            let t = starts_there j k ((p - 1) * S) c s e in
            (t, omega arith)

    by_server : (q : ℕ) → 1 ≤ q → Covers S rs q ((p - 1) * S) → p ≤ ring_processors S rs →
        First S rs p (first_reserve S rs p).server (first_reserve S rs p).left
    by_server zero k c l = absurd (omega arith)
    by_server (suc j) k c l =
        subst (λ (s : Stand). First S rs p s.server s.left)
        (sym (first_ring S rs p l ∙ stand_covered S rs (record { 0 = (p - 1) * S }) j c))
        (first_of j c)

    pub first_reserve_lem : 1 ≤ S → 1 ≤ p → p ≤ ring_processors S rs → First S rs p (first_reserve S rs p).server (first_reserve S rs p).left
    first_reserve_lem h some l =
        let f = covered ((p - 1) * S) (ring_least S rs h (omega arith)) in
        let s = f.1 in
        by_server f.0 s.some f.2 l
