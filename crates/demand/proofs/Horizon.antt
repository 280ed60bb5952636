-- Lengths 1 to H decide for all: beyond H, take H off.
-- Assumes nothing.
use Prim.Native.Nat.{ℕ, zero, suc, ◌+◌, ◌-◌, ◌≤◌, ◌<◌}
use mathlib.Core.Path.{◌≡◌, subst}
use mathlib.Core.Logic.{⊎_elim}
use native.Mathlib.Nat.{le_refl, le_trans, add-le-add}
use native.Mathlib.Omega.{arith}
use Rattle.laws.proofs.Orders.{le_or_lt}
use Rattle.demand.specs.Supply.{gap, supply}
use Rattle.demand.proofs.Supply.{supply_gap, supply_more}

module _ (g s : ℕ → ℕ) (H : ℕ) (some : 1 ≤ H) (turns : (t : ℕ) → g (t + H) ≤ g t + g H) (gains : (t : ℕ) → s t + s H ≤ s (t + H))
    (within : (t : ℕ) → 1 ≤ t → t ≤ H → g t ≤ s t) where
  -- n bounds how often H can be taken off
  pub beyond : (n t : ℕ) → t ≤ n → 1 ≤ t → g t ≤ s t
  beyond zero t h p = within t p (omega arith)
  beyond (suc n) t h p =
      ⊎_elim
      (λ (q : t ≤ H). within t p q)
      (λ (q : H < t).
      let e : t - H + H ≡ t = omega arith in
      let before : g (t - H) ≤ s (t - H) = beyond n (t - H) (omega arith) (omega arith) in
      subst (λ (u : ℕ). g u ≤ s u) e
      (le_trans (turns (t - H)) (le_trans (add-le-add before (within H some (le_refl H))) (gains (t - H)))))
      (le_or_lt t H)

-- a length and H ticks more supply at least what the two do
pub supply_gains : (S L R t H : ℕ) → 1 ≤ S → supply S L R t + supply S L R H ≤ supply S L R (t + H)
supply_gains S L R t H h =
    rw (supply_gap S L R t h, supply_gap S L R H h, supply_gap S L R (t + H) h) (supply_more S (gap S L R) t H h)
