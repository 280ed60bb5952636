-- Laws of the first task for which a test holds: at a task it holds, fails, or the tasks end.
use Rattle.std.specs.Prelude.{Err, Ok}
use Prim.Native.Nat.{ℕ, zero, suc, ◌+◌, ◌≤◌}
use native.Mathlib.Omega.{arith}
use mathlib.Core.List.{List, [], ◌∷◌}
use mathlib.Core.Bool.{Bool, true, false, cond}
use mathlib.Core.Path.{◌≡◌, refl}
use lib.ListN.{length}
use Rattle.refusals.specs.declared.Refusal.{Refusal}
use Rattle.tasks.specs.Search.{first_from, at_task}

module _ {A : Type 0} (p : A → Bool) where
  -- the first is one of them, or 0
  pub first_within : (k : ℕ) (ts : List A) → first_from p k ts ≤ k + length ts
  unfolding first_from
  first_within k [] = omega arith
  first_within k (t ∷ ts) = picked (p t) (first_within (suc k) ts)
    where
      picked : (b : Bool) → first_from p (suc k) ts ≤ suc k + length ts → cond b k (first_from p (suc k) ts) ≤ k + suc (length ts)
      picked true h = omega arith
      picked false h = omega arith

-- a refusal at the first task
pub at_none : (r : ℕ → Refusal) (n : ℕ) → n ≡ 0 → at_task r n ≡ Ok tt
at_none r n e = rw e

pub at_some : (r : ℕ → Refusal) (n : ℕ) → (n ≡ 0 → ⊥) → at_task r n ≡ Err (r n)
at_some r zero ne = absurd (ne refl)
at_some r (suc n) ne = refl
