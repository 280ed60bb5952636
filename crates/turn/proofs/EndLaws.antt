-- The positions where a stretch ends: as many as there are stretches, and one right before each ring processor's first position unless that processor starts amid a reserve.
-- Assumes nothing.
use Prim.Native.Nat.{ℕ, zero, suc, ◌+◌, ◌*◌, ◌-◌, ◌%◌, ◌≤◌, ◌<◌}
use mathlib.Core.Path.{◌≡◌, refl, sym, ap, ◌∙◌}
use mathlib.Core.List.{List}
use mathlib.Core.Bool.{Bool, true, false, cond}
use mathlib.Core.Logic.{⊎_elim}
use native.Mathlib.Nat.{le_refl, mod-eq_of_lt, add-mod_right}
use native.Mathlib.Omega.{arith}
use lib.Dec.{eqb, ltb}
use lib.ListN.{length, get_or, take}
use lib.Seq.{take-length}
use Rattle.laws.proofs.Orders.{le_or_lt}
use Rattle.laws.proofs.Choices.{cond_eqb, cond_eqb_not, cond_ltb, cond_ltb_not}
use Rattle.ring.specs.declared.cover.Stand.{Stand}
use Rattle.reserves.specs.Reserves.{reserve_of, ring_ticks, start_of, wholes, ring_processors, ring_length, idle_positions}
use Rattle.ring.specs.Cover.{stand_at}
use Rattle.ring.specs.Who.{first_reserve}
use Rattle.ring_claims.specs.Slotted.{Slotted}
use Rattle.reserves.proofs.Starts.{ring_more, ring_same, ring_mono, ring_holds, ring_least, wholes_more, wholes_same, wholes_below}
use Rattle.ring.proofs.CoverLaws.{Covers, covers_there, found}
use Rattle.ring.proofs.StandLaws.{stand_covered, stand_idle}
use Rattle.ring.proofs.WhoLaws.{first_ring}
use Rattle.ring_claims.proofs.ServeLaws.{stand_cases}
use Rattle.turn.specs.Count.{stretches}
use Rattle.turn.proofs.SumLaws.{sum_to, sum_same, sum_const, sum_split}

pub at_most_one : (t : Bool) → ◌≤◌ (cond t 1 0) 1
at_most_one true = le_refl 1
at_most_one false = omega arith

-- 1 where this tick is the last that is left
abbrev pub last : ℕ → ℕ
last left = cond (eqb left 1) 1 0

pub last_one : (left : ℕ) → left ≡ 1 → last left ≡ 1
last_one left e = cond_eqb 1 0 e

pub last_more : (left : ℕ) → 2 ≤ left → last left ≡ 0
last_more left h = cond_eqb_not 1 0 (λ (e : left ≡ 1). omega arith)

-- a stretch of n positions, counted down to its end, has one last where it has any
ends_once : (left : ℕ → ℕ) (n : ℕ) → ((i : ℕ) → i < n → left i ≡ n - i) → sum_to (λ i. last (left i)) n ≡ cond (ltb 0 n) 1 0
unfolding sum_to
ends_once left zero e = refl
ends_once left (suc m) e =
    let one : left m ≡ 1 = omega (arith, e m (le_refl (suc m))) in
    omega (
      arith,
      sum_same (λ i. last (left i)) (λ i. 0) m (λ i l. last_more (left i) (omega (arith, e i (omega arith)))),
      sum_const 0 m,
      last_one (left m) one,
      cond_ltb {a = 0} {b = suc m} 1 0 (omega arith),
    )

module _ (S : ℕ) (rs : List ℕ) where
  abbrev r : ℕ
  r = ring_processors S rs

  abbrev L : ℕ
  L = ring_length S rs

  abbrev left_at : ℕ → ℕ
  left_at π = (stand_at S rs (record { 0 = π })).left

  -- 1 where a stretch has its last position
  abbrev pub last_at : ℕ → ℕ
  last_at π = last (left_at π)

  left_covered : (j π : ℕ) → Covers S rs (suc j) π → left_at π ≡ start_of S rs (suc j) + reserve_of rs (suc j) - π
  left_covered j π c = ap (λ (s : Stand). s.left) (stand_covered S rs (record { 0 = π }) j c)

  left_idle : (π : ℕ) → ring_ticks S rs ≤ π → left_at π ≡ L - π
  left_idle π l = ap (λ (s : Stand). s.left) (stand_idle S rs (record { 0 = π }) l)

  -- ---- as many ends as stretches

  module _ (res : Slotted S rs) where
    -- up to the end of the first k reserves: one for each that stands on the ring
    reserve_ends : (k : ℕ) → k ≤ length rs → sum_to last_at (ring_ticks S (take k rs)) + wholes S (take k rs) ≡ k
    unfolding ring_ticks wholes sum_to
    reserve_ends zero h = refl
    reserve_ends (suc k) h =
        ⊎_elim
        (λ (w : S ≤ get_or rs k 0).
        omega (arith, ap (sum_to last_at) (ring_same S rs k h w), wholes_more S rs k h w, reserve_ends k (omega arith)))
        (λ (w : get_or rs k 0 < S).
        omega (
          arith,
          ap (sum_to last_at) (ring_more S rs k h w),
          sum_split last_at (ring_ticks S (take k rs)) (get_or rs k 0),
          ends_once (λ i. left_at (ring_ticks S (take k rs) + i)) (get_or rs k 0) (λ i l. down w i l),
          cond_ltb {a = 0} {b = get_or rs k 0} 1 0 (res.some k h),
          wholes_same S rs k h w,
          reserve_ends k (omega arith),
        ))
        (le_or_lt S (get_or rs k 0))
      where
        down : get_or rs k 0 < S → (i : ℕ) → i < get_or rs k 0 → left_at (ring_ticks S (take k rs) + i) ≡ get_or rs k 0 - i
        down w i l =
            left_covered k (ring_ticks S (take k rs) + i) (record { ring = w; from = omega arith; before = omega arith }) ∙
            omega arith

    -- and one at the ring's end where there are idle positions
    idle_end : sum_to (λ i. last_at (ring_ticks S rs + i)) (idle_positions S rs) ≡ cond (ltb 0 (idle_positions S rs)) 1 0
    idle_end =
        ends_once (λ i. left_at (ring_ticks S rs + i)) (idle_positions S rs)
        (λ i k. left_idle (ring_ticks S rs + i) (omega arith) ∙ omega arith)

    pub ends_stretches : sum_to last_at L ≡ stretches S rs
    unfolding stretches
    ends_stretches =
        let e : ring_ticks S rs + idle_positions S rs ≡ L = omega (arith, ring_holds S rs res.slot_some) in
        let k : sum_to last_at (ring_ticks S rs) + wholes S rs ≡ length rs = rw (take-length rs) at (reserve_ends (length rs) (le_refl (length rs))) in
        omega (arith, ap (sum_to last_at) e, sum_split last_at (ring_ticks S rs) (idle_positions S rs), idle_end, wholes_below S rs)

  -- ---- the position before a ring processor's first

  -- where the first k reserves end, one of them does
  last_reserve : (k π : ℕ) → k ≤ length rs → suc π ≡ ring_ticks S (take k rs) → last_at π ≡ 1
  last_reserve k π h e =
      let f = found S rs k π h (omega arith) in
      by f.0 f.1 f.2 f.3
    where
      by : (q : ℕ) → 1 ≤ q → q ≤ k → Covers S rs q π → last_at π ≡ 1
      by zero a b c = absurd (omega arith)
      by (suc j) a b c =
          last_one (left_at π)
          (left_covered j π c ∙
          omega (arith, c.before, ring_more S rs j (covers_there S rs j π c) c.ring, ring_mono S rs {i = suc j} {j = k} b))

  -- and at the ring's end a reserve or the idle stretch
  last_ring : (π : ℕ) → 1 ≤ S → suc π ≡ L → last_at π ≡ 1
  last_ring π h e =
      ⊎_elim
      (λ (l : ring_ticks S rs ≤ π). last_one (left_at π) (left_idle π l ∙ omega arith))
      (λ (l : π < ring_ticks S rs).
      last_reserve (length rs) π (le_refl (length rs)) (rw (take-length rs) (omega (arith, ring_holds S rs h))))
      (le_or_lt (ring_ticks S rs) π)

  -- 1 where ring processor p starts amid a reserve
  abbrev pub amid_at : ℕ → ℕ
  amid_at p = cond (ltb (first_reserve S rs p).left (reserve_of rs (first_reserve S rs p).server)) 1 0

  pub amid_at_most : (p : ℕ) → amid_at p ≤ 1
  amid_at_most p = at_most_one (ltb (first_reserve S rs p).left (reserve_of rs (first_reserve S rs p).server))

  module _ (p : ℕ) (h : 1 ≤ S) (some : 1 ≤ p) (l : p ≤ r) where
    abbrev z : ℕ
    z = (p - 1) * S

    amid_covered : (j : ℕ) → Covers S rs (suc j) z → amid_at p ≡ cond (ltb (start_of S rs (suc j) + reserve_of rs (suc j) - z) (reserve_of rs (suc j))) 1 0
    amid_covered j c = rw (first_ring S rs p l ∙ stand_covered S rs (record { 0 = z }) j c)

    -- a reserve that starts there is whole
    amid_none : (j : ℕ) → Covers S rs (suc j) z → start_of S rs (suc j) ≡ z → amid_at p ≡ 0
    amid_none j c e =
        let k : reserve_of rs (suc j) ≤ start_of S rs (suc j) + reserve_of rs (suc j) - z = omega arith in
        amid_covered j c ∙ cond_ltb_not 1 0 k

    -- one that starts before is not, and covers the position before too
    amid_one : (j π : ℕ) → Covers S rs (suc j) z → suc π ≡ z → start_of S rs (suc j) ≤ π → (amid_at p ≡ 1) × (last_at π ≡ 0)
    amid_one j π c e b =
        let k : start_of S rs (suc j) + reserve_of rs (suc j) - z < reserve_of rs (suc j) = omega (arith, c.before) in
        let d : Covers S rs (suc j) π = record { ring = c.ring; from = b; before = omega (arith, c.before) } in
        (amid_covered j c ∙ cond_ltb 1 0 k, last_more (left_at π) (omega (arith, left_covered j π d, c.before)))

    covered_first : (j : ℕ) × Covers S rs (suc j) z
    covered_first =
        ⊎_elim
        (λ (k : ring_ticks S rs ≤ z). absurd (omega (arith, ring_least S rs {k = p - 1} h (omega arith))))
        (λ (f : (j : ℕ) × Covers S rs (suc j) z). f)
        (stand_cases S rs z)

    -- the position before, round the ring, is the last of a stretch unless the processor starts amid a reserve
    pub before_first : (M : ℕ) → suc M ≡ L → last_at ((M + z) % L) + amid_at p ≡ 1
    before_first M e =
        ⊎_elim
        (λ (k : z ≤ 0).
        let m : M + z ≡ M = omega arith in
        let at : (M + z) % L ≡ M = ap (λ (n : ℕ). n % L) m ∙ mod-eq_of_lt (omega arith) in
        rw at (omega (arith, last_ring M h e, amid_none j c (omega (arith, c.from)))))
        (λ (k : 0 < z).
        let π : ℕ = z - 1 in
        let u : suc π ≡ z = omega arith in
        let m : M + z ≡ π + L = omega arith in
        let b : z < L = omega (arith, ring_least S rs {k = p - 1} h (omega arith), ring_holds S rs h) in
        let at : (M + z) % L ≡ π = ap (λ (n : ℕ). n % L) m ∙ add-mod_right π L ∙ mod-eq_of_lt (omega arith) in
        rw at
        (⊎_elim
        (λ (v : start_of S rs (suc j) ≤ π). let two = amid_one j π c u v in omega (arith, two.0, two.1))
        (λ (v : π < start_of S rs (suc j)).
        let here : start_of S rs (suc j) ≡ z = omega (arith, c.from) in
        omega (
          arith,
          amid_none j c here,
          last_reserve j π (omega (arith, covers_there S rs j z c)) (u ∙ sym here),
        ))
        (le_or_lt (start_of S rs (suc j)) π)))
        (le_or_lt z 0)
      where
        j : ℕ
        j = covered_first.0

        c : Covers S rs (suc j) z
        c = covered_first.1

  -- processor 1 starts where the first reserve does
  pub amid_first : 1 ≤ S → 1 ≤ r → amid_at 1 ≡ 0
  amid_first h l =
      let f = covered_first 1 h (le_refl 1) l in
      let c = f.1 in
      amid_none 1 h (le_refl 1) l f.0 c (omega (arith, c.from))
