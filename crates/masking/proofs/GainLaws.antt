-- Laws of a gain: what a demand gains at each length, and that it is never more than the extra.
-- Assumes nothing.
use Prim.Native.Nat.{ℕ, ◌+◌, ◌≤◌, ◌<◌}
use mathlib.Core.Path.{◌≡◌, sym, ◌∙◌}
use mathlib.Core.Bool.{Bool, true, false, cond, ◌&&◌}
use mathlib.Core.Logic.{◌⊎◌, inl, inr, ⊎_elim}
use native.Mathlib.Omega.{arith}
use borrow.Author.Tests.{le-leb, lt-leb, lt-ltb, le-ltb, ltb-true}
use lib.Dec.{leb, ltb}
use Rattle.laws.proofs.Tests.{and_both, and_left, and_right, true_false}
use Rattle.laws.proofs.Orders.{le_or_lt}
use Rattle.laws.proofs.Choices.{cond_true, cond_false}
use Rattle.masking.specs.declared.Gain.{Gain}
use Rattle.masking.specs.Masking.{gain_at, gaining, gains_some}

and_false_left : {a : Bool} (b : Bool) → a ≡ false → (a && b) ≡ false
and_false_left b p = rw p

and_false_right : (a : Bool) {b : Bool} → b ≡ false → (a && b) ≡ false
and_false_right true p = p
and_false_right false p = cc

-- some length gains something: there is an extra, and the ends lie apart
pub gains_somewhere : (k : Gain) → gains_some k ≡ true → (1 ≤ k.extra) × (k.from < k.until)
unfolding gains_some
gains_somewhere k h = (
  ltb-true 0 k.extra (and_left (ltb 0 k.extra) (ltb k.from k.until) h),
  ltb-true k.from k.until (and_right (ltb 0 k.extra) (ltb k.from k.until) h),
)

pub gains_nowhere : (k : Gain) → gains_some k ≡ false → (k.extra ≡ 0) ⊎ (k.until ≤ k.from)
unfolding gains_some
gains_nowhere k h =
    ⊎_elim
    (λ (p : k.extra ≤ 0). inl (omega arith))
    (λ (p : 0 < k.extra).
    ⊎_elim
    (λ (q : k.until ≤ k.from). inr q)
    (λ (q : k.from < k.until). true_false (sym (and_both (lt-ltb 0 k.extra p) (lt-ltb k.from k.until q)) ∙ h))
    (le_or_lt k.until k.from))
    (le_or_lt k.extra 0)

module _ (k : Gain) (t : ℕ) where
  -- the extra, from `from` up to and not including `until`
  pub gain_in : k.from ≤ t → t < k.until → gain_at k t ≡ k.extra
  unfolding gain_at
  gain_in h g = cond_true k.extra 0 (and_both (le-leb _ _ h) (lt-ltb _ _ g))

  -- nothing before it
  pub gain_before : t < k.from → gain_at k t ≡ 0
  unfolding gain_at
  gain_before h = cond_false k.extra 0 (and_false_left (ltb t k.until) (lt-leb _ _ h))

  -- nothing after it
  pub gain_after : k.until ≤ t → gain_at k t ≡ 0
  unfolding gain_at
  gain_after h = cond_false k.extra 0 (and_false_right (leb k.from t) (le-ltb _ _ h))

  -- never more than the extra
  pub gain_most : gain_at k t ≤ k.extra
  unfolding gain_at
  gain_most = most (leb k.from t && ltb t k.until)
    where
      most : (b : Bool) → cond b k.extra 0 ≤ k.extra
      most true = omega arith
      most false = omega arith

  -- the same of a demand with the gain
  module _ (g : ℕ → ℕ) where
    pub gaining_in : k.from ≤ t → t < k.until → gaining k g t ≡ g t + k.extra
    unfolding gaining
    gaining_in h b = omega (arith, gain_in h b)

    pub gaining_before : t < k.from → gaining k g t ≡ g t
    unfolding gaining
    gaining_before h = omega (arith, gain_before h)

    pub gaining_after : k.until ≤ t → gaining k g t ≡ g t
    unfolding gaining
    gaining_after h = omega (arith, gain_after h)

    pub gaining_above : g t ≤ gaining k g t
    unfolding gaining
    gaining_above = omega arith

    -- nothing where there is no extra, or no length between the two ends
    pub gaining_none : gains_some k ≡ false → gaining k g t ≡ g t
    gaining_none h =
        ⊎_elim
        (λ (p : t < k.from). gaining_before p)
        (λ (p : k.from ≤ t).
        ⊎_elim
        (λ (q : k.until ≤ t). gaining_after q)
        (λ (q : t < k.until). ⊎_elim (λ (e : k.extra ≡ 0). omega (arith, gaining_in p q)) (λ (n : k.until ≤ k.from). absurd (omega arith)) (gains_nowhere k h))
        (le_or_lt k.until t))
        (⊎_elim inr inl (le_or_lt k.from t))
