-- The ticks left, by the position of a ring processor and by the slot of a whole one.
-- Assumes nothing.
use Prim.Native.Nat.{ℕ, zero, suc, ◌+◌, ◌-◌, ◌≤◌, ◌<◌}
use mathlib.Core.Path.{◌≡◌, refl, ap, ◌∙◌}
use mathlib.Core.List.{List}
use mathlib.Core.Logic.{⊎_elim}
use native.Mathlib.Nat.{le_trans}
use native.Mathlib.Omega.{arith}
use Rattle.ring.specs.declared.clock.Tick.{Tick}
use Rattle.ring.specs.declared.cover.Stand.{Stand}
use Rattle.reserves.specs.Reserves.{reserve_of, ring_ticks, start_of, ring_processors, ring_length}
use Rattle.ring.specs.Phase.{phase}
use Rattle.ring.specs.Who.{who_of}
use Rattle.ring_claims.specs.Claims.{Left}
use Rattle.ring.proofs.CoverLaws.{Covers}
use Rattle.ring.proofs.StandLaws.{stand_covered, stand_idle}
use Rattle.ring.proofs.PhaseLaws.{phase_below}
use Rattle.ring.proofs.WhoLaws.{who_ring, who_whole}
use Rattle.ring_claims.proofs.ServeLaws.{stand_cases}

module _ (S : ℕ) (rs : List ℕ) (p : ℕ) (x : Tick) where
  abbrev r : ℕ
  r = ring_processors S rs

  abbrev At : ℕ
  At = (phase S r p x).0

  -- the end of what the answer names: a reserve, or the idle stretch
  abbrev end : ℕ → ℕ
  end zero = ring_length S rs
  end (suc q) = start_of S rs (suc q) + reserve_of rs (suc q)

  left_by : (s : Stand) (q : ℕ) → who_of S rs p x ≡ s → s ≡ record { server = q; left = end q - At } → At < end q →
      At + (who_of S rs p x).left ≡ end (who_of S rs p x).server
  left_by s q e f l =
      let el : (who_of S rs p x).left ≡ end q - At = ap (λ (s : Stand). s.left) (e ∙ f) in
      let es : (who_of S rs p x).server ≡ q = ap (λ (s : Stand). s.server) (e ∙ f) in
      rw (es, el) (omega arith)

  left_ring : 1 ≤ S → 1 ≤ p → p ≤ r → At + (who_of S rs p x).left ≡ end (who_of S rs p x).server
  left_ring h some l =
      ⊎_elim
      (λ (k : ring_ticks S rs ≤ At).
      left_by _ 0 (who_ring S rs p x l) (stand_idle S rs (phase S r p x) k) (phase_below S r p x h (le_trans some l)))
      (λ (f : (j : ℕ) × Covers S rs (suc j) At).
      let c = f.1 in
      left_by _ (suc f.0) (who_ring S rs p x l) (stand_covered S rs (phase S r p x) f.0 c) c.before)
      (stand_cases S rs At)

  -- the end of a server that is there
  end_some : (q : ℕ) → 1 ≤ q → end q ≡ start_of S rs q + reserve_of rs q
  end_some zero k = absurd (omega arith)
  end_some (suc q) k = refl

  pub left : 1 ≤ S → 1 ≤ p → Left S rs p x
  left h some = record {
    reserve = λ l q k e. left_ring h some l ∙ ap end e ∙ end_some q k;
    idle = λ l e. left_ring h some l ∙ ap end e;
    whole = λ l. ap (λ (s : Stand). s.left) (who_whole S rs p x l);
  }
