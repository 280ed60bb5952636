-- Where a lawful demand does not pass there is a length at which it fails: its horizon bounds the search.
-- Assumes nothing.
use Prim.Native.Nat.{ℕ, zero, suc, ◌≤◌, ◌<◌}
use mathlib.Core.Path.{◌≡◌, subst, sym}
use mathlib.Core.Logic.{◌⊎◌, inl, inr, ⊎_elim}
use native.Mathlib.Nat.{le-suc_iff}
use native.Mathlib.Omega.{arith}
use Rattle.laws.proofs.Orders.{le_or_lt}
use Rattle.demand.specs.Supply.{supply}
use Rattle.demand.specs.Lawful.{Lawful}
use Rattle.demand.specs.Passes.{Passes}
use Rattle.demand.proofs.Claims.{demand_decides}

-- up to n the one is within the other, or a length says no
up_to : (g s : ℕ → ℕ) (n : ℕ) → ((t : ℕ) → 1 ≤ t → t ≤ n → g t ≤ s t) ⊎ ((t : ℕ) × (s t < g t))
up_to g s zero = inl (λ (t : ℕ) (p : 1 ≤ t) (q : t ≤ 0). omega arith)
up_to g s (suc n) =
    ⊎_elim
    (λ (f : (t : ℕ) → 1 ≤ t → t ≤ n → g t ≤ s t).
    ⊎_elim
    (λ (p : g (suc n) ≤ s (suc n)).
    inl (λ (t : ℕ) (a : 1 ≤ t) (b : t ≤ suc n).
    ⊎_elim (λ (c : t ≤ n). f t a c) (λ (e : t ≡ suc n). subst (λ (u : ℕ). g u ≤ s u) (sym e) p) (le-suc_iff.0 b)))
    (λ (p : s (suc n) < g (suc n)). inr (suc n, p))
    (le_or_lt (g (suc n)) (s (suc n))))
    (λ (w : (t : ℕ) × (s t < g t)). inr w)
    (up_to g s n)

-- a lawful demand that does not pass fails at a length
pub fails_somewhere : (g : ℕ → ℕ) (H S L R : ℕ) → Lawful g H → 1 ≤ S → (Passes g S L R → ⊥) → (t : ℕ) × (supply S L R t < g t)
fails_somewhere g H S L R lawful slot refused =
    ⊎_elim
    (λ (f : (t : ℕ) → 1 ≤ t → t ≤ H → g t ≤ supply S L R t). absurd (refused (demand_decides g S L R H slot lawful f)))
    (λ (w : (t : ℕ) × (supply S L R t < g t)). w)
    (up_to g (supply S L R) H)
