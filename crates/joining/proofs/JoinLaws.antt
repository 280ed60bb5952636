-- One step of placing: what joining answers by any rule that picks candidates.
-- Assumes nothing.
use Prim.Native.Nat.{ℕ, zero, suc, ◌≤◌, ◌<◌}
use native.Mathlib.Omega.{arith}
use mathlib.Core.Path.{◌≡◌, refl, sym, ap, subst, ◌∙◌}
use mathlib.Core.Logic.{◌⊎◌, inl, inr, ⊎_elim}
use mathlib.Core.Bool.{Bool, true}
use Rattle.search.specs.Search.{or_else}
use Rattle.joining.specs.Join.{FitRule, join, Picks}

-- the first number stands where it is not 0
or_else_some : (a b : ℕ) → 1 ≤ a → or_else a b ≡ a
or_else_some zero b h = absurd (omega arith)
or_else_some (suc a) b h = refl

module _ (rule : FitRule) (candidate : ℕ → Bool) (lo hi : ℕ) where
  -- what the rule picks
  pub join_picked : {q : ℕ} → rule candidate lo hi ≡ q → 1 ≤ q → join rule candidate lo hi ≡ q
  unfolding join
  join_picked {q} e h = ap (λ (t : ℕ). or_else t (suc hi)) e ∙ or_else_some q (suc hi) h

  -- nothing: a new server
  pub join_nothing : rule candidate lo hi ≡ 0 → join rule candidate lo hi ≡ suc hi
  unfolding join
  join_nothing e = ap (λ (t : ℕ). or_else t (suc hi)) e

  -- by a rule that picks candidates it is a candidate, or new
  pub join_view : Picks rule →
      (join rule candidate lo hi ≡ suc hi)
      ⊎ ((lo < join rule candidate lo hi) × (join rule candidate lo hi ≤ hi) × (candidate (join rule candidate lo hi) ≡ true))
  join_view picks = ⊎_elim (λ e. inl (join_nothing e)) (λ w. inr (found w)) (picks candidate lo hi)
    where
      found : (lo < rule candidate lo hi) × (rule candidate lo hi ≤ hi) × (candidate (rule candidate lo hi) ≡ true)
          → (lo < join rule candidate lo hi) × (join rule candidate lo hi ≤ hi) × (candidate (join rule candidate lo hi) ≡ true)
      found w =
          subst (λ (q : ℕ). (lo < q) × (q ≤ hi) × (candidate q ≡ true)) (sym (join_picked refl (omega (arith, w.0)))) w
