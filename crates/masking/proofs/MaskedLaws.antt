-- Laws of the demand of loads where interrupts can be held off: where it gains, that it is lawful, where it rises, when nothing is gained,
-- and when B alone is too much.
-- Assumes nothing.
use Prim.Native.Nat.{ℕ, suc, ◌+◌, ◌≤◌, ◌<◌, ◌∣◌}
use mathlib.Core.Path.{◌≡◌, refl, subst, ◌∙◌}
use mathlib.Core.List.{List, [], ◌∷◌}
use mathlib.Core.Logic.{◌⊎◌, inl, inr, ⊎_elim}
use native.Mathlib.Nat.{le_refl, le_trans, le_of_dvd}
use native.Mathlib.Omega.{arith}
use Rattle.laws.proofs.Orders.{le_or_lt, eq_or_ne}
use Rattle.demand.specs.Load.{Load, Sound, Every}
use Rattle.demand.specs.Demand.{demand}
use Rattle.demand.specs.Lawful.{RisesAt, Lawful}
use Rattle.demand.specs.Steps.{StepOf, Some, Step}
use Rattle.demand.proofs.Claims.{loads_lawful}
use Rattle.demand.proofs.Demand.{demand_nil, demand_cons, demand_zero, demand_turn}
use Rattle.demand.proofs.Steps.{rises_at}
use Rattle.masking.specs.Masking.{soonest_of, soonest, latest, gain_at, gaining, gain_of, masked_demand}
use Rattle.masking.proofs.EndsLaws as ends
use Rattle.masking.proofs.GainLaws.{gain_in, gain_before, gain_after}

module _ (B : ℕ) (ls : List Load) (t : ℕ) where
  -- B more from the smallest deadline up to, not including, the largest
  pub masked_in : soonest ls ≤ t → t < latest ls → masked_demand B ls t ≡ demand ls t + B
  unfolding masked_demand gaining gain_of
  masked_in h g = omega (arith, gain_in (gain_of B ls) t h g)

  -- nothing before
  pub masked_before : t < soonest ls → masked_demand B ls t ≡ demand ls t
  unfolding masked_demand gaining gain_of
  masked_before h = omega (arith, gain_before (gain_of B ls) t h)

  -- nothing past
  pub masked_past : latest ls ≤ t → masked_demand B ls t ≡ demand ls t
  unfolding masked_demand gaining gain_of
  masked_past h = omega (arith, gain_after (gain_of B ls) t h)

  pub masked_outside : (t < soonest ls) ⊎ (latest ls ≤ t) → masked_demand B ls t ≡ demand ls t
  masked_outside w = ⊎_elim masked_before masked_past w

  -- it is never below what the loads ask
  pub masked_above : demand ls t ≤ masked_demand B ls t
  unfolding masked_demand gaining
  masked_above = omega arith

  -- each length gains B or nothing
  pub masked_cases : (masked_demand B ls t ≡ demand ls t + B) ⊎ (masked_demand B ls t ≡ demand ls t)
  masked_cases =
      ⊎_elim
      (λ (p : soonest ls ≤ t). ⊎_elim (λ q. inr (masked_past q)) (λ q. inl (masked_in p q)) (le_or_lt (latest ls) t))
      (λ p. inr (masked_before p))
      (le_or_lt (soonest ls) t)

  -- loads of one deadline gain nothing
  pub masked_equal : (d : ℕ) → Every (λ (l : Load). l.deadline ≡ d) ls → masked_demand B ls t ≡ demand ls t
  masked_equal d e =
      let within : latest ls ≤ soonest ls = ends.equal_ends d ls e in
      ⊎_elim (λ (p : soonest ls ≤ t). masked_past (omega arith)) (λ p. masked_before p) (le_or_lt (soonest ls) t)

-- nor does one load alone
pub masked_one : (B : ℕ) (l : Load) (t : ℕ) → masked_demand B (l ∷ []) t ≡ demand (l ∷ []) t
masked_one B l t = masked_equal B (l ∷ []) t l.deadline (refl, tt)

-- nor any loads with B = 0
pub masked_none : (ls : List Load) (t : ℕ) → masked_demand 0 ls t ≡ demand ls t
masked_none ls t = ⊎_elim (λ (e : masked_demand 0 ls t ≡ demand ls t + 0). omega arith) (λ e. e) (masked_cases 0 ls t)

-- sound loads ask nothing at length 0
pub masked_zero : (B : ℕ) (ls : List Load) → Every Sound ls → masked_demand B ls 0 ≡ 0
masked_zero B ls e = masked_outside B ls 0 (outside ls e) ∙ demand_zero ls e
  where
    outside : (ls : List Load) → Every Sound ls → (0 < soonest ls) ⊎ (latest ls ≤ 0)
    outside [] e = inr (ends.latest_below 0 [] tt)
    outside (l ∷ ls) e = inl (ends.soonest_some l ls e)

due_within : (ls : List Load) (H : ℕ) → Every Sound ls → 1 ≤ H → Every (λ (l : Load). l.period ∣ H) ls → Every (λ (l : Load). l.deadline ≤ H) ls
due_within [] H e h v = tt
due_within (l ∷ ls) H e h v = (le_trans e.0.constrained (le_of_dvd h v.0), due_within ls H e.1 h v.1)

-- the deadlines of sound loads are within every common multiple of the periods
pub masked_within : (ls : List Load) (H : ℕ) → Every Sound ls → 1 ≤ H → Every (λ (l : Load). l.period ∣ H) ls → latest ls ≤ H
masked_within ls H e h v = ends.latest_below H ls (due_within ls H e h v)

-- it stays lawful under every common multiple of the periods: that is past the largest deadline
pub masked_lawful : (B : ℕ) (ls : List Load) (H : ℕ) → Every Sound ls → 1 ≤ H → Every (λ (l : Load). l.period ∣ H) ls → Lawful (masked_demand B ls) H
masked_lawful B ls H e h v =
    let due : latest ls ≤ H = masked_within ls H e h v in
    record {
      none = masked_zero B ls e;
      horizon = h;
      turns = λ t.
          omega (
            arith,
            masked_past B ls (t + H) (omega arith),
            masked_past B ls H due,
            masked_above B ls t,
            demand_turn ls t H e v,
          );
    }

-- the smallest deadline is a step
pub step_at : (x : ℕ) (ls : List Load) → Some (λ (l : Load). l.deadline ≡ x) ls → Some (λ (l : Load). StepOf l x) ls
step_at x [] s = elim s [ ]
step_at x (l ∷ ls) s = ⊎_elim (λ (e : l.deadline ≡ x). inl (0, omega arith)) (λ r. inr (step_at x ls r)) s

pub soonest_step : (l : Load) (ls : List Load) → Every Sound (l ∷ ls) → Step (l ∷ ls) (soonest (l ∷ ls))
unfolding soonest
soonest_step l ls e =
    let m = soonest_of l.deadline ls in
    (ends.soonest_some l ls e, step_at m (l ∷ ls) (ends.soonest_found m l.deadline ls refl))

-- so it rises at the loads' own steps only: elsewhere the gain does not begin
gain_rises : (B : ℕ) (ls : List Load) (t : ℕ) → (soonest ls ≡ suc t → ⊥) → gain_at (gain_of B ls) (suc t) ≤ gain_at (gain_of B ls) t
unfolding gain_of
gain_rises B ls t n =
    ⊎_elim
    (λ (p : soonest ls ≤ t).
    ⊎_elim
    (λ (q : latest ls ≤ suc t). omega (arith, gain_after (gain_of B ls) (suc t) q))
    (λ (q : suc t < latest ls). omega (arith, gain_in (gain_of B ls) (suc t) (omega arith) q, gain_in (gain_of B ls) t p (omega arith)))
    (le_or_lt (latest ls) (suc t)))
    (λ (p : t < soonest ls).
    ⊎_elim
    (λ (q : soonest ls ≤ suc t). absurd (n (omega arith)))
    (λ (q : suc t < soonest ls). omega (arith, gain_before (gain_of B ls) (suc t) q))
    (le_or_lt (soonest ls) (suc t)))
    (le_or_lt (soonest ls) t)

pub masked_steps : (B : ℕ) (ls : List Load) → Every Sound ls → RisesAt (Step ls) (masked_demand B ls)
unfolding masked_demand gaining
masked_steps B [] e t =
    inr
    (omega (
      arith,
      demand_nil (suc t),
      masked_past B [] (suc t) (ends.latest_below (suc t) [] tt),
    ))
masked_steps B (l ∷ ls) e t =
    ⊎_elim
    (λ (s : soonest (l ∷ ls) ≡ suc t). inl (subst (Step (l ∷ ls)) s (soonest_step l ls e)))
    (λ (n : soonest (l ∷ ls) ≡ suc t → ⊥).
    ⊎_elim
    (λ (st : Step (l ∷ ls) (suc t)). inl st)
    (λ (stays : demand (l ∷ ls) (suc t) ≤ demand (l ∷ ls) t). inr (omega (arith, gain_rises B (l ∷ ls) t n)))
    (rises_at (l ∷ ls) e t))
    (eq_or_ne (soonest (l ∷ ls)) (suc t))

-- ---- B alone is too much

-- loads of which one is due at a length ask for something there
asked_at : (x : ℕ) (ls : List Load) → Every Sound ls → Some (λ (l : Load). l.deadline ≡ x) ls → 1 ≤ demand ls x
asked_at x [] e s = elim s [ ]
asked_at x (l ∷ ls) e s =
    ⊎_elim
    (λ (d : l.deadline ≡ x). subst (λ (t : ℕ). 1 ≤ demand (l ∷ ls) t) d (loads_lawful.some l ls e.0))
    (λ r. omega (arith, demand_cons l ls x, asked_at x ls e.1 r))
    s

-- where there is a gain and the smallest deadline is at most B, more than that length is asked of it
pub masked_short : (B : ℕ) (ls : List Load) → Every Sound ls → soonest ls < latest ls → soonest ls ≤ B →
    (1 ≤ soonest ls) × (soonest ls < masked_demand B ls (soonest ls))
unfolding soonest
masked_short B [] e gain small = absurd (omega (arith, ends.latest_below 0 [] tt))
masked_short B (l ∷ ls) e gain small =
    let m = soonest (l ∷ ls) in (
      ends.soonest_some l ls e,
      omega (arith, masked_in B (l ∷ ls) m (le_refl m) gain, asked_at m (l ∷ ls) e (ends.soonest_found m l.deadline ls refl)),
    )
