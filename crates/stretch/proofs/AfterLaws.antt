-- A pass over the reserves behind a stretch, for the first that stands on the ring: what it finds, and what follows where it finds none.
-- Assumes nothing.
use Prim.Native.Nat.{ℕ, zero, suc, ◌+◌, ◌-◌, ◌%◌, ◌≤◌, ◌<◌}
use mathlib.Core.Path.{◌≡◌, refl, sym, ap, ◌∙◌}
use mathlib.Core.List.{List}
use native.Mathlib.Nat.{le_refl, le_trans, mod_self, mod-eq_of_lt}
use native.Mathlib.Omega.{arith}
use lib.ListN.{get_or, take}
use lib.Seq.{get_or-take}
use Rattle.reserves.specs.Slotted.{SlottedFirst}
use Rattle.reserves.specs.Reserves.{ring_ticks, ring_length, idle_positions}
use Rattle.ring.specs.declared.cover.Stand.{Stand}
use Rattle.ring.specs.Cover.{stand_at}
use Rattle.turn.specs.Stretch.{end_of, stand_after, Stretched}
use Rattle.reserves.proofs.Starts.{ring_nil, ring_more, ring_part, ring_holds, taken_length, taken_start}
use Rattle.reserves.proofs.SummedLaws.{Summed, summed_all}
use Rattle.ring.proofs.StandLaws.{stand_found, stand_idle}
use Rattle.turn.proofs.NextLaws.{after_at, end_ticks}

module _ {S : ℕ} {rs : List ℕ} {n : ℕ} (laid : SlottedFirst S rs n) where
  abbrev L : ℕ
  L = ring_length S (take n rs)

  stretch_there : {q : ℕ} → Stretched S (take n rs) q → q ≤ n
  stretch_there has = omega (arith, has.there, taken_length laid)

  -- the stretch of a server ends with the reserves up to it
  end_sum : (q : ℕ) → Stretched S (take n rs) (suc q) → end_of S (take n rs) (suc q) ≡ ring_ticks S (take (suc q) rs)
  end_sum q has = end_ticks S (take n rs) q has ∙ taken_start laid (suc q) (stretch_there has)

  -- where these end before the ring does, what follows stands there; the idle stretch is followed by position 0
  end_before : (q : ℕ) → Stretched S (take n rs) q → ring_ticks S (take q rs) < L → end_of S (take n rs) q % L ≡ ring_ticks S (take q rs)
  end_before zero has l = mod_self L ∙ sym (ring_nil S)
  end_before (suc q) has l = ap (λ (k : ℕ). k % L) (end_sum q has) ∙ mod-eq_of_lt l

  module _ {q : ℕ} (has : Stretched S (take n rs) q) where
    -- up to i no reserve on the ring is passed that ends later than the stretch of q
    abbrev pub Behind : ℕ → Type 0
    Behind i = Summed (ring_ticks S) rs n (ring_ticks S (take q rs)) i

    pub behind_first : Behind q
    behind_first = record { within = stretch_there has; so_far = refl }

    follows : ring_ticks S (take q rs) < L → stand_after S (take n rs) q ≡ stand_at S (take n rs) (record { 0 = ring_ticks S (take q rs) })
    follows l = after_at S (take n rs) q (ring_ticks S (take q rs)) (end_before q has l)

    -- the first reserve on the ring follows, whole
    pub behind_found : {i : ℕ} → Behind i → i < n → get_or rs i 0 < S →
        ◌≡◌ {A = Stand} (record { server = i + 1; left = get_or rs i 0 }) (stand_after S (take n rs) q)
    behind_found {i} b h l =
        let B : ℕ = ring_ticks S (take q rs) in
        let R : ℕ = get_or rs i 0 in
        let some : 1 ≤ R = laid.some i h in
        let more : ring_ticks S (take (suc i) rs) ≡ ring_ticks S (take i rs) + R = ring_more S rs i (le_trans h laid.there) l in
        let before : B < L =
        omega (arith, b.so_far, taken_start laid (suc i) h, ring_part S (take n rs) (suc i), ring_holds S (take n rs) laid.slot_some) in
        let whole : R ≡ B + R - B = omega arith in
        ap (λ (k : ℕ). record { server = i + 1; left = k }) whole ∙
        stand_found laid (record { 0 = B }) i B h l b.so_far (le_refl B) (omega arith) ∙
        sym (follows before)

    -- behind the last reserve the idle positions follow, where there are any
    pub behind_idle : {i idle : ℕ} → Behind i → n ≤ i → idle ≡ idle_positions S (take n rs) → 1 ≤ idle →
        ◌≡◌ {A = Stand} (record { server = 0; left = idle }) (stand_after S (take n rs) q)
    behind_idle {i} {idle} b h e some =
        let B : ℕ = ring_ticks S (take q rs) in
        let all : B ≡ ring_ticks S (take n rs) = summed_all b h in
        let rest : idle ≡ L - B = omega arith in
        ap (λ (k : ℕ). record { server = 0; left = k }) rest ∙
        sym (follows (omega arith) ∙ stand_idle S (take n rs) (record { 0 = B }) (omega arith))

  -- and where there are none, the ring begins again
  pub behind_again : {i : ℕ} (q : ℕ) (has : Stretched S (take n rs) q) → Behind has i → n ≤ i → idle_positions S (take n rs) ≡ 0 →
      (0 < L) × (stand_at S (take n rs) (record { 0 = 0 }) ≡ stand_after S (take n rs) q)
  behind_again zero has b h e = absurd (omega (arith, has.idle refl))
  behind_again (suc q) has b h e =
      let own : get_or (take n rs) q 0 ≡ get_or rs q 0 = get_or-take n rs q 0 (stretch_there has) in
      let some : 1 ≤ get_or rs q 0 = laid.some q (stretch_there has) in
      let holds = ring_holds S (take n rs) laid.slot_some in
      let all : ring_ticks S (take (suc q) rs) ≡ ring_ticks S (take n rs) = summed_all b h in
      let turned : end_of S (take n rs) (suc q) ≡ L = end_sum q has ∙ omega arith in (
        omega arith,
        sym (after_at S (take n rs) (suc q) 0 (ap (λ (k : ℕ). k % L) turned ∙ mod_self L)),
      )
