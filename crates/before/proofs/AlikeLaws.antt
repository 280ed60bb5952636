-- What agrees wherever something holds, over lists of which that holds: tests, numbers of servers, and steps of placing.
-- Assumes nothing.
use Prim.Native.Nat.{ℕ, zero, suc, ◌≤◌}
use native.Mathlib.Omega.{arith}
use mathlib.Core.List.{List, [], ◌∷◌, ◌++◌}
use mathlib.Core.Bool.{Bool, cond, ◌||◌}
use mathlib.Core.Path.{◌≡◌, refl, ap, ap₂, ◌∙◌}
use Rattle.demand.specs.Load.{Every}
use Rattle.demand.proofs.Demand.{every_snoc}
use Rattle.tasks.specs.Search.{some, first_from}
use Rattle.places.specs.Padded.{up_to}
use Rattle.loads.specs.Figures.{Figures}
use Rattle.servers.specs.Placement.{Step, place_by}

module _ {A : Type 0} (P : A → Type 0) (p q : A → Bool) (same : (x : A) → P x → p x ≡ q x) where
  pub some_same : (xs : List A) → Every P xs → some p xs ≡ some q xs
  unfolding some
  some_same [] all = refl
  some_same (x ∷ xs) all = ap₂ ◌||◌ (same x all.0) (some_same xs all.1)

  pub first_same : (k : ℕ) (xs : List A) → Every P xs → first_from p k xs ≡ first_from q k xs
  unfolding first_from
  first_same k [] all = refl
  first_same k (x ∷ xs) all = ap₂ (λ (b : Bool) (n : ℕ). cond b k n) (same x all.0) (first_same (suc k) xs all.1)

pub ups_same : (f g : ℕ → ℕ) (n : ℕ) → ((q : ℕ) → 1 ≤ q → q ≤ n → f q ≡ g q) → up_to f n ≡ up_to g n
unfolding up_to
ups_same f g zero same = refl
ups_same f g (suc n) same =
    ap₂ (λ (ns : List ℕ) (m : ℕ). ns ++ (m ∷ [])) (ups_same f g n (λ q one le. same q one (omega arith))) (same (suc n) (omega arith) (omega arith))

pub placed_same : (P : Figures → Type 0) (step had : Step) →
    ((done : List Figures) (placement : List ℕ) (l : Figures) → Every P done → P l → step done placement l ≡ had done placement l) →
    (done : List Figures) (placement : List ℕ) (left : List Figures) → Every P done → Every P left →
    place_by step done placement left ≡ place_by had done placement left
unfolding place_by
placed_same P step had same done placement [] before all = refl
placed_same P step had same done placement (l ∷ left) before all =
    ap (λ (q : ℕ). place_by step (done ++ (l ∷ [])) (placement ++ (q ∷ [])) left) (same done placement l before all.0)
    ∙ placed_same P step had same (done ++ (l ∷ [])) (placement ++ (had done placement l ∷ [])) left (every_snoc P done l before all.0) all.1
