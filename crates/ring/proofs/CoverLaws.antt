-- Which server covers a position: at most one does, below the sum of the reserves exactly one, and past it none.
-- Assumes nothing.
use Prim.Native.Nat.{ℕ, zero, suc, ◌+◌, ◌≤◌, ◌<◌}
use mathlib.Core.Path.{◌≡◌, refl, sym, ap, subst, ◌∙◌}
use mathlib.Core.List.{List}
use mathlib.Core.Bool.{Bool, true, false, cond, ◌&&◌}
use mathlib.Core.Logic.{⊎_elim}
use native.Mathlib.Nat.{le-suc_iff, le_refl}
use native.Mathlib.Omega.{arith}
use borrow.Author.Tests.{lt-ltb, le-leb, ltb-true, leb-true}
use lib.Dec.{ltb, leb}
use lib.ListN.{length, get_or, take, get_or-eq_default}
use Rattle.laws.proofs.Tests.{and_parts, true_false}
use Rattle.laws.proofs.Orders.{eq_by_cases, le_or_lt}
use Rattle.ring.specs.declared.clock.Position.{Position}
use Rattle.reserves.specs.Reserves.{reserve_of, ring_ticks, start_of}
use Rattle.ring.specs.Cover.{covers, coverer_up_to}
use Rattle.reserves.proofs.Starts.{ring_more, ring_same, ring_mono, ring_part}

-- what the test `covers` tests
pub record Covers (S : ℕ) (rs : List ℕ) (q π : ℕ) : Type 0 where
  pub ring : reserve_of rs q < S
  pub from : start_of S rs q ≤ π
  pub before : π < start_of S rs q + reserve_of rs q

module _ (S : ℕ) (rs : List ℕ) where
  pub covers_told : (q : ℕ) (at : Position) → covers S rs q at ≡ true → Covers S rs q at.0
  unfolding covers
  covers_told q at e =
      let a = and_parts (ltb (reserve_of rs q) S) (leb (start_of S rs q) at.0 && ltb at.0 (start_of S rs q + reserve_of rs q)) e in
      let b = and_parts (leb (start_of S rs q) at.0) (ltb at.0 (start_of S rs q + reserve_of rs q)) a.1 in
      record { ring = ltb-true _ _ a.0; from = leb-true _ _ b.0; before = ltb-true _ _ b.1 }

  pub covers_is : (q : ℕ) (at : Position) → Covers S rs q at.0 → covers S rs q at ≡ true
  unfolding covers
  covers_is q at c =
      rw (lt-ltb (reserve_of rs q) S c.ring, le-leb (start_of S rs q) at.0 c.from)
      (lt-ltb at.0 (start_of S rs q + reserve_of rs q) c.before)

  -- a server that covers is there
  pub covers_there : (j π : ℕ) → Covers S rs (suc j) π → j < length rs
  covers_there j π c =
      ⊎_elim
      (λ (p : length rs ≤ j). let e = get_or-eq_default rs 0 p in absurd (omega (arith, c.from, c.before)))
      (λ (p : j < length rs). p)
      (le_or_lt (length rs) j)

  -- it covers before the reserves up to it end
  pub covers_before : (j π : ℕ) → Covers S rs (suc j) π → π < ring_ticks S (take (suc j) rs)
  covers_before j π c = omega (arith, c.before, ring_more S rs j (covers_there j π c) c.ring)

  -- so it lies before every later server's start
  later : (j k π : ℕ) → Covers S rs (suc j) π → Covers S rs (suc k) π → j < k → ⊥
  later j k π c d h = omega (arith, covers_before j π c, ring_mono S rs {i = suc j} {j = k} h, d.from)

  -- no two reserves overlap
  pub no_overlap : (q q' π : ℕ) → 1 ≤ q → 1 ≤ q' → Covers S rs q π → Covers S rs q' π → q ≡ q'
  no_overlap zero q' π h h' c d = absurd (omega arith)
  no_overlap (suc j) zero π h h' c d = absurd (omega arith)
  no_overlap (suc j) (suc k) π h h' c d = ap suc (eq_by_cases j k (later j k π c d) (later k j π d c))

  -- no server covers past the reserves
  pub none_past : (q π : ℕ) → 1 ≤ q → ring_ticks S rs ≤ π → Covers S rs q π → ⊥
  none_past zero π h l c = omega arith
  none_past (suc j) π h l c = omega (arith, covers_before j π c, ring_part S rs (suc j))

  -- a position before the end of the first n reserves has one of them
  pub found : (n π : ℕ) → n ≤ length rs → π < ring_ticks S (take n rs) → (q : ℕ) × (1 ≤ q) × (q ≤ n) × Covers S rs q π
  unfolding ring_ticks
  found zero π h l = absurd (omega arith)
  found (suc n) π h l =
      ⊎_elim
      (λ (p : ring_ticks S (take n rs) ≤ π).
      ⊎_elim
      (λ (w : S ≤ get_or rs n 0). absurd (omega (arith, ring_same S rs n h w)))
      (λ (w : get_or rs n 0 < S).
      (suc n, omega arith, le_refl (suc n), record { ring = w; from = p; before = omega (arith, ring_more S rs n h w) }))
      (le_or_lt S (get_or rs n 0)))
      (λ (p : π < ring_ticks S (take n rs)).
      let f = found n π (omega arith) p in
      (f.0, f.1, omega (arith, f.2), f.3))
      (le_or_lt (ring_ticks S (take n rs)) π)

  -- ---- the server that covers

  module _ (at : Position) where
    coverer_suc : (n : ℕ) (t : Bool) → covers S rs (suc n) at ≡ t → coverer_up_to S rs at (suc n) ≡ cond t (suc n) (coverer_up_to S rs at n)
    unfolding coverer_up_to
    coverer_suc n t e = rw e

    -- the coverer is the server that covers
    pub coverer_is : (n q : ℕ) → 1 ≤ q → q ≤ n → Covers S rs q at.0 → coverer_up_to S rs at n ≡ q
    coverer_is zero q h l c = absurd (omega arith)
    coverer_is (suc n) q h l c = by (λ p. coverer_is n q h p c) (covers S rs (suc n) at) refl
      where
        by : (q ≤ n → coverer_up_to S rs at n ≡ q) → (t : Bool) → covers S rs (suc n) at ≡ t → coverer_up_to S rs at (suc n) ≡ q
        by fewer true e =
            coverer_suc n true e ∙ no_overlap (suc n) q at.0 (omega arith) h (covers_told (suc n) at e) c
        by fewer false e =
            coverer_suc n false e ∙
            ⊎_elim
            (λ (p : q ≤ n). fewer p)
            (λ (p : q ≡ suc n).
            true_false (sym (covers_is q at c) ∙ ap (λ (k : ℕ). covers S rs k at) p ∙ e))
            (le-suc_iff.0 l)

    -- and a coverer that is there covers
    pub coverer_covers : (n : ℕ) → 1 ≤ coverer_up_to S rs at n → (coverer_up_to S rs at n ≤ n) × Covers S rs (coverer_up_to S rs at n) at.0
    unfolding coverer_up_to
    coverer_covers zero h = absurd (omega arith)
    coverer_covers (suc n) h = by (coverer_covers n) (covers S rs (suc n) at) refl
      where
        by : (1 ≤ coverer_up_to S rs at n → (coverer_up_to S rs at n ≤ n) × Covers S rs (coverer_up_to S rs at n) at.0) → (t : Bool) → covers S rs (suc n) at ≡ t → (coverer_up_to S rs at (suc n) ≤ suc n) × Covers S rs (coverer_up_to S rs at (suc n)) at.0
        by fewer true e =
            subst (λ (k : ℕ). (k ≤ suc n) × Covers S rs k at.0) (sym (coverer_suc n true e)) (le_refl (suc n), covers_told (suc n) at e)
        by fewer false e =
            let f = fewer (rw (coverer_suc n false e) at h) in
            subst (λ (k : ℕ). (k ≤ suc n) × Covers S rs k at.0) (sym (coverer_suc n false e)) (omega (arith, f.0), f.1)

    -- past the reserves there is none
    pub coverer_none : (n : ℕ) → ring_ticks S rs ≤ at.0 → coverer_up_to S rs at n ≡ 0
    coverer_none n l =
        ⊎_elim
        (λ (p : 1 ≤ coverer_up_to S rs at n).
        absurd (none_past (coverer_up_to S rs at n) at.0 p l (coverer_covers n p).1))
        (λ (p : coverer_up_to S rs at n < 1). omega arith)
        (le_or_lt 1 (coverer_up_to S rs at n))
