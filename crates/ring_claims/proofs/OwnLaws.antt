-- The servers that have a whole processor: each processor past the ring has one, and no two have the same.
-- Assumes nothing.
use Prim.Native.Nat.{ℕ, zero, suc, ◌+◌, ◌≤◌, ◌<◌}
use mathlib.Core.Path.{◌≡◌, refl, sym, ap, ◌∙◌}
use mathlib.Core.List.{List, [], ◌∷◌}
use mathlib.Core.Logic.{⊎_elim}
use native.Mathlib.Omega.{arith}
use lib.ListN.{length, get_or}
use Rattle.laws.proofs.Orders.{le_or_lt}
use Rattle.laws.proofs.Choices.{cond_ltb, cond_ltb_not}
use Rattle.reserves.specs.Reserves.{wholes}
use Rattle.reserves.specs.Whole.{whole_from}
use Rattle.reserves.proofs.Starts.{wholes_cons, wholes_nil}
use Rattle.reserves.proofs.WholeLaws.{whole_past, whole_here, whole_next}

module _ (S : ℕ) where
  -- each whole processor has a server that is there and has a slot
  pub whole_at : (rs : List ℕ) (q k : ℕ) → k < wholes S rs →
      (i : ℕ) × (i < length rs) × (whole_from S rs q k ≡ q + i) × (S ≤ get_or rs i 0)
  whole_at [] q k h = absurd (omega (arith, wholes_nil S))
  whole_at (R ∷ Rs) q k h =
      ⊎_elim
      (λ (w : S ≤ R). own R Rs q k w h (λ j. whole_at Rs (suc q) j))
      (λ (w : R < S).
      let f = whole_at Rs (suc q) k (omega (arith, wholes_cons S R Rs, cond_ltb 0 1 w)) in (
        suc f.0,
        omega (arith, f.1),
        whole_past S R Rs q k w ∙ omega (arith, f.2),
        f.3,
      ))
      (le_or_lt S R)
    where
      own : (R : ℕ) (Rs : List ℕ) (q k : ℕ) → S ≤ R → k < wholes S (R ∷ Rs) →
          ((j : ℕ) → j < wholes S Rs → (i : ℕ) × (i < length Rs) × (whole_from S Rs (suc q) j ≡ suc q + i) × (S ≤ get_or Rs i 0)) →
          (i : ℕ) × (i < length (R ∷ Rs)) × (whole_from S (R ∷ Rs) q k ≡ q + i) × (S ≤ get_or (R ∷ Rs) i 0)
      own R Rs q zero w h more = (0, omega arith, whole_here S R Rs q w ∙ omega arith, w)
      own R Rs q (suc k) w h more =
          let f = more k (omega (arith, wholes_cons S R Rs, cond_ltb_not 0 1 w)) in
          (suc f.0, omega (arith, f.1), whole_next S R Rs q k w ∙ omega (arith, f.2), f.3)

  -- each server with a slot has a whole processor
  pub whole_has : (rs : List ℕ) (q i : ℕ) → i < length rs → S ≤ get_or rs i 0 →
      (k : ℕ) × (k < wholes S rs) × (whole_from S rs q k ≡ q + i)
  whole_has [] q i h l = absurd (omega arith)
  whole_has (R ∷ Rs) q zero h l =
      (0, omega (arith, wholes_cons S R Rs, cond_ltb_not 0 1 l), whole_here S R Rs q l ∙ omega arith)
  whole_has (R ∷ Rs) q (suc i) h l =
      let f = whole_has Rs (suc q) i (omega arith) l in
      ⊎_elim
      (λ (w : S ≤ R). (
        suc f.0,
        omega (arith, wholes_cons S R Rs, cond_ltb_not 0 1 w, f.1),
        whole_next S R Rs q f.0 w ∙ omega (arith, f.2),
      ))
      (λ (w : R < S). (
        f.0,
        omega (arith, wholes_cons S R Rs, cond_ltb 0 1 w, f.1),
        whole_past S R Rs q f.0 w ∙ omega (arith, f.2),
      ))
      (le_or_lt S R)

  -- and no two whole processors have the same server
  pub whole_once : (rs : List ℕ) (q k k' : ℕ) → k < wholes S rs → k' < wholes S rs → whole_from S rs q k ≡ whole_from S rs q k' → k ≡ k'
  whole_once [] q k k' h h' e = absurd (omega (arith, wholes_nil S))
  whole_once (R ∷ Rs) q k k' h h' e =
      ⊎_elim
      (λ (w : S ≤ R). own R Rs q k k' w h h' e (λ j j'. whole_once Rs (suc q) j j'))
      (λ (w : R < S).
      whole_once Rs (suc q) k k' (omega (arith, wholes_cons S R Rs, cond_ltb 0 1 w)) (omega (arith, wholes_cons S R Rs, cond_ltb 0 1 w))
      (sym (whole_past S R Rs q k w) ∙ e ∙ whole_past S R Rs q k' w))
      (le_or_lt S R)
    where
      own : (R : ℕ) (Rs : List ℕ) (q k k' : ℕ) → S ≤ R → k < wholes S (R ∷ Rs) → k' < wholes S (R ∷ Rs) →
          whole_from S (R ∷ Rs) q k ≡ whole_from S (R ∷ Rs) q k' →
          ((j j' : ℕ) → j < wholes S Rs → j' < wholes S Rs → whole_from S Rs (suc q) j ≡ whole_from S Rs (suc q) j' → j ≡ j') → k ≡ k'
      own R Rs q zero zero w h h' e more = refl
      own R Rs q zero (suc k') w h h' e more =
          let f = whole_at Rs (suc q) k' (omega (arith, wholes_cons S R Rs, cond_ltb_not 0 1 w)) in
          absurd (omega (arith, e, whole_here S R Rs q w, whole_next S R Rs q k' w, f.2))
      own R Rs q (suc k) zero w h h' e more =
          let f = whole_at Rs (suc q) k (omega (arith, wholes_cons S R Rs, cond_ltb_not 0 1 w)) in
          absurd (omega (arith, e, whole_here S R Rs q w, whole_next S R Rs q k w, f.2))
      own R Rs q (suc k) (suc k') w h h' e more =
          ap suc
          (more k k' (omega (arith, wholes_cons S R Rs, cond_ltb_not 0 1 w)) (omega (arith, wholes_cons S R Rs, cond_ltb_not 0 1 w))
          (sym (whole_next S R Rs q k w) ∙ e ∙ whole_next S R Rs q k' w))
