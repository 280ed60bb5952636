-- Laws of the lengths where a demand steps: what the test says, and that the demand of sound loads steps exactly where a deadline falls.
-- Assumes nothing.
use Prim.Native.Nat.{ℕ, zero, suc, ◌+◌, ◌*◌, ◌-◌, ◌/◌, ◌≤◌, ◌<◌}
use mathlib.Core.Path.{◌≡◌, ap, sym, subst, ◌∙◌}
use mathlib.Core.Bool.{true, false}
use mathlib.Core.Logic.{⊎_elim}
use mathlib.Core.List.{List, [], ◌∷◌}
use native.Mathlib.Nat.{le-suc_iff, le_trans, le_of_eq, add-lt-add_of_lt_of_le, add-lt-add_of_le_of_lt, mul-le-mul_left, mul-lt-mul_of_pos_left}
use native.Mathlib.Numerals.{unary_clauses}
use native.Mathlib.Omega.{arith}
use lib.Arith.{digits_div}
use borrow.Author.Tests.{lt-ltb, ltb-true, ltb-false}
use Rattle.laws.proofs.Orders.{le_or_lt}
use Rattle.demand.specs.Load.{Load, Sound, Every}
use Rattle.demand.specs.Demand.{jobs, demand}
use Rattle.demand.specs.Steps.{StepOf, Some, Step}
use Rattle.demand.specs.Lawful.{RisesAt}
use Rattle.demand.proofs.Demand.{jobs_code, jobs_mono, demand_cons, demand_mono}
use Rattle.demand.proofs.Steps.{rises_at}
use Rattle.search.specs.Search.{NoneIn}
use Rattle.search.proofs.Bounded.{none_less}
use Rattle.steps.specs.Stepping.{StepsAt, steps}

-- ---- the test, of any demand

module _ (g : ℕ → ℕ) (x : ℕ) where
  pub does_step : StepsAt g x → steps g x ≡ true
  unfolding steps
  does_step h = lt-ltb (g (x - 1)) (g x) h

  pub has_stepped : steps g x ≡ true → StepsAt g x
  unfolding steps
  has_stepped e = ltb-true (g (x - 1)) (g x) e

  pub no_step_stays : steps g (suc x) ≡ false → g (suc x) ≤ g x
  unfolding steps
  no_step_stays e = simp unary_clauses at (ltb-false (g (suc x - 1)) (g (suc x)) e)

-- where none steps the demand does not rise
pub no_steps : (g : ℕ → ℕ) (a b : ℕ) → a ≤ b → NoneIn (steps g) a b → g b ≤ g a
no_steps g zero zero h none = omega arith
no_steps g (suc a) zero h none = absurd (omega arith)
no_steps g a (suc b) h none =
    ⊎_elim
    (λ (p : a ≤ b). le_trans (no_step_stays g b (none (suc b) (omega arith) (omega arith))) (no_steps g a b p (none_less none (omega arith))))
    (λ (q : a ≡ suc b). le_of_eq (sym (ap g q)))
    (le-suc_iff.0 h)

-- a demand steps from 1 on
pub steps_from : (g : ℕ → ℕ) (x : ℕ) → StepsAt g x → 1 ≤ x
steps_from g zero h = absurd (omega arith)
steps_from g (suc x) h = omega arith

-- a demand that rises at some lengths only steps at these only
pub steps_rise : (At : ℕ → Type 0) (g : ℕ → ℕ) (x : ℕ) → RisesAt At g → StepsAt g x → At x
steps_rise At g x rises h =
    let e : suc (x - 1) ≡ x = omega (arith, steps_from g x h) in
    ⊎_elim
    (λ (at : At (suc (x - 1))). subst At e at)
    (λ (n : g (suc (x - 1)) ≤ g (x - 1)). absurd (omega (arith, ap g e)))
    (rises (x - 1))

-- one that asks for something at a length steps there or before
pub some_step : (g : ℕ → ℕ) (x : ℕ) → g 0 ≡ 0 → 1 ≤ g x → (m : ℕ) × (m ≤ x) × StepsAt g m
some_step g zero none some = absurd (omega (arith, none))
some_step g (suc x) none some =
    ⊎_elim
    (λ (stays : g (suc x) ≤ g x).
    let before = some_step g x none (omega arith) in
    (before.0, omega (arith, before.1), before.2))
    (λ (rises : g x < g (suc x)). (suc x, omega arith, simp unary_clauses rises))
    (le_or_lt (g (suc x)) (g x))

-- ---- one load

-- at a deadline there is one job more than before
pub jobs_step : (d T j : ℕ) → 1 ≤ d → d ≤ T → jobs d T (d + j * T - 1) < jobs d T (d + j * T)
jobs_step d T j h g =
    let before : d + j * T - 1 + T - d ≡ j * T + (T - 1) = omega arith in
    let there : d + j * T + T - d ≡ (j + 1) * T + 0 = omega arith in
    let old : jobs d T (d + j * T - 1) ≡ j =
    jobs_code d T (d + j * T - 1) (omega arith) g ∙ ap (λ (n : ℕ). n / T) before ∙ digits_div j (omega arith) in
    let new : jobs d T (d + j * T) ≡ j + 1 =
    jobs_code d T (d + j * T) (omega arith) g ∙ ap (λ (n : ℕ). n / T) there ∙ digits_div (j + 1) (omega arith) in
    omega arith

-- so the load asks for more
term_step : (l : Load) {x : ℕ} → Sound l → StepOf l x → l.cost * jobs l.deadline l.period (x - 1) < l.cost * jobs l.deadline l.period x
term_step l s st =
    rw st.1 (mul-lt-mul_of_pos_left (jobs_step l.deadline l.period st.0 s.due s.constrained) s.some)

term_mono : (l : Load) {t u : ℕ} → Sound l → t ≤ u → l.cost * jobs l.deadline l.period t ≤ l.cost * jobs l.deadline l.period u
term_mono l s h = mul-le-mul_left l.cost (jobs_mono l.deadline l.period (omega arith) s.constrained h)

-- ---- loads

-- where a deadline falls the demand steps
pub some_steps : (ls : List Load) (x : ℕ) → Every Sound ls → Some (λ (l : Load). StepOf l x) ls → StepsAt (demand ls) x
some_steps [] x sound st = absurd st
some_steps (l ∷ ls) x sound st =
    rw (demand_cons l ls (x - 1), demand_cons l ls x)
    (⊎_elim
    (λ (a : StepOf l x). add-lt-add_of_lt_of_le (term_step l sound.0 a) (demand_mono ls sound.1 (omega arith)))
    (λ (b : Some (λ (l : Load). StepOf l x) ls). add-lt-add_of_le_of_lt (term_mono l sound.0 (omega arith)) (some_steps ls x sound.1 b))
    st)

-- and it steps there only
pub steps_some : (ls : List Load) (x : ℕ) → Every Sound ls → StepsAt (demand ls) x → Step ls x
steps_some ls x sound h = steps_rise (Step ls) (demand ls) x (rises_at ls sound) h
