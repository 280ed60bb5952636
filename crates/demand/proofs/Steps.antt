-- The steps decide: between steps a demand does not rise and supply does not fall, and at length 0 it is 0.
-- Assumes nothing.
use Prim.Native.Nat.{ℕ, zero, suc, ◌+◌, ◌*◌, ◌-◌, ◌/◌, ◌%◌, ◌≤◌, ◌<◌}
use mathlib.Core.Path.{◌≡◌, ap, subst, sym, ◌∙◌}
use mathlib.Core.Logic.{◌⊎◌, inl, inr, ⊎_elim}
use mathlib.Core.List.{List, [], ◌∷◌}
use native.Mathlib.Nat.{le_trans, le_of_eq, le-suc, le_antisymm, div-add-mod', mul-mod_left, add-sub_cancel_left}
use native.Mathlib.Omega.{arith}
use Rattle.laws.proofs.Orders.{eq_or_ne, le_or_lt}
use Rattle.demand.specs.Load.{Load, Sound, Every}
use Rattle.demand.specs.Demand.{demand}
use Rattle.demand.specs.Supply.{gap, supply}
use Rattle.demand.specs.Lawful.{RisesAt}
use Rattle.demand.specs.Steps.{StepOf, Some, Step}
use Rattle.demand.proofs.Demand.{demand_stays}
use Rattle.demand.proofs.Supply.{supply_gap, supply_mono}

-- past a step the remainder by the period is 0
step_rest : (d T j : ℕ) {x : ℕ} → x ≡ d + j * T → (x - d) % T ≡ 0
step_rest d T j e = ap (λ (n : ℕ). (n - d) % T) e ∙ ap (λ (n : ℕ). n % T) (add-sub_cancel_left d (j * T)) ∙ mul-mod_left j T

-- whether a length is a step of a load, and of a list of loads
pub step_of : (l : Load) (x : ℕ) → StepOf l x ⊎ (StepOf l x → ⊥)
step_of l x =
    ⊎_elim
    (λ (p : l.deadline ≤ x).
    ⊎_elim
    (λ (e : (x - l.deadline) % l.period ≡ 0). inl ((x - l.deadline) / l.period, omega (arith, div-add-mod' (x - l.deadline) l.period)))
    (λ (n : (x - l.deadline) % l.period ≡ 0 → ⊥). inr (λ (st : StepOf l x). n (step_rest l.deadline l.period st.0 st.1)))
    (eq_or_ne ((x - l.deadline) % l.period) 0))
    (λ (p : x < l.deadline). inr (λ (st : StepOf l x). omega (arith, st.1)))
    (le_or_lt l.deadline x)

some_step : (ls : List Load) (x : ℕ) → Some (λ (l : Load). StepOf l x) ls ⊎ (Some (λ (l : Load). StepOf l x) ls → ⊥)
some_step [] x = inr (λ b. b)
some_step (l ∷ ls) x =
    ⊎_elim
    (λ (a : StepOf l x). inl (inl a))
    (λ (n : StepOf l x → ⊥).
    ⊎_elim
    (λ (b : Some (λ (l : Load). StepOf l x) ls). inl (inr b))
    (λ (m : Some (λ (l : Load). StepOf l x) ls → ⊥). inr (λ e. ⊎_elim n m e))
    (some_step ls x))
    (step_of l x)

pub step_or_not : (ls : List Load) (x : ℕ) → 1 ≤ x → Step ls x ⊎ (Step ls x → ⊥)
step_or_not ls x h =
    ⊎_elim
    (λ (a : Some (λ (l : Load). StepOf l x) ls). inl (h, a))
    (λ (n : Some (λ (l : Load). StepOf l x) ls → ⊥). inr (λ (st : Step ls x). n st.1))
    (some_step ls x)

-- up to a length that is no step demand stays
no_step : (ls : List Load) (t : ℕ) → Every Sound ls → (Step ls (suc t) → ⊥) → demand ls t ≡ demand ls (suc t)
no_step ls t sound n =
    demand_stays ls sound (le-suc t) (λ x p q st. n (subst (λ (y : ℕ). Step ls y) (le_antisymm q p) st))

-- supply never falls, in the literal form
pub supply_grows : (S L R : ℕ) {t u : ℕ} → 1 ≤ S → t ≤ u → supply S L R t ≤ supply S L R u
supply_grows S L R {t} {u} h g = rw (supply_gap S L R t h, supply_gap S L R u h) (supply_mono S (gap S L R) h g)

-- the demand of sound loads rises at their steps only
pub rises_at : (ls : List Load) → Every Sound ls → RisesAt (Step ls) (demand ls)
rises_at ls sound t =
    ⊎_elim
    (λ (st : Step ls (suc t)). inl st)
    (λ (n : Step ls (suc t) → ⊥). inr (le_of_eq (sym (no_step ls t sound n))))
    (step_or_not ls (suc t) (omega arith))

module _ (Step : ℕ → Type 0) (g : ℕ → ℕ) (S L R H : ℕ) (slot : 1 ≤ S) (none : g 0 ≡ 0) (rises : RisesAt Step g)
    (at-steps : (t : ℕ) → 1 ≤ t → t ≤ H → Step t → g t ≤ supply S L R t) where
  pub up_to : (t : ℕ) → t ≤ H → g t ≤ supply S L R t
  up_to zero h = omega arith
  up_to (suc t) h =
      let before : g t ≤ supply S L R t = up_to t (omega arith) in
      ⊎_elim
      (λ (st : Step (suc t)). at-steps (suc t) (omega arith) h st)
      (λ (n : g (suc t) ≤ g t). le_trans n (le_trans before (supply_grows S L R slot (omega arith))))
      (rises t)
