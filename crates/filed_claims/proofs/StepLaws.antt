-- Up to a common multiple of their periods, the steps of sound loads and interrupts decide whether their demand passes where interrupts
-- can be held off; and at no step is it closer than at its closest length.
-- Assumes nothing.
use Prim.Native.Nat.{ℕ, ◌+◌, ◌-◌, ◌≤◌, ◌<◌, ◌∣◌}
use native.Mathlib.Omega.{arith}
use mathlib.Core.Path.{◌≡◌}
use mathlib.Core.Logic.{◌↔◌, ◌⊎◌, ⊎_elim}
use mathlib.Core.List.{List, map}
use Rattle.demand.specs.Load.{Load, Sound, Every}
use Rattle.demand.specs.Lawful.{Lawful, RisesAt}
use Rattle.demand.specs.Supply.{supply}
use Rattle.demand.specs.Passes.{Passes}
use Rattle.demand.specs.Steps.{Step}
use Rattle.demand.proofs.Claims.{demand_decides, steps_decide}
use Rattle.interrupting.specs.Interrupts.{Bound, EveryBound, greatest}
use Rattle.interrupting.proofs.AskedLaws.{sum_lawful, sum_steps}
use Rattle.interrupting.proofs.GreatestLaws.{greatest_zero, greatest_steps}
use Rattle.interrupting.proofs.Claims.{interrupts_lawful}
use Rattle.steps.specs.Stepping.{StepsAt}
use Rattle.steps.proofs.StepLaws.{some_steps, steps_rise, some_step}
use Rattle.masking.specs.Masking.{masked_demand}
use Rattle.masking.proofs.MaskedLaws.{masked_above, masked_lawful, masked_steps, masked_zero}
use Rattle.verdict.specs.Claims.{Closest}
use Rattle.verdict.proofs.Claims.{closest_of_all, closest_first}
use Rattle.filed_claims.proofs.InterruptLaws.{asked_there}

module _ (B : ℕ) (ls : List Load) (m : ℕ) (bs : List Bound) (sound : Every Sound ls) (bound : EveryBound (λ (b : Bound). Sound b.load) bs) where
  -- what they ask together, and where it can step
  abbrev asks : ℕ → ℕ
  asks t = masked_demand B ls t + greatest m bs t

  abbrev At : ℕ → Type 0
  At x = Step ls x ⊎ Step (map (λ (b : Bound). b.load) bs) x

  rises : RisesAt At asks
  rises = sum_steps (masked_demand B ls) (greatest m bs) (Step ls) (Step (map (λ (b : Bound). b.load) bs)) (masked_steps B ls sound) (greatest_steps bs bound m)

  -- it is lawful under every common multiple of their periods
  pub asks_lawful : (H : ℕ) → 1 ≤ H → Every (λ (l : Load). l.period ∣ H) ls → EveryBound (λ (b : Bound). b.load.period ∣ H) bs → Lawful asks H
  asks_lawful H some divides interrupts =
      sum_lawful (masked_demand B ls) (greatest m bs) H (masked_lawful B ls H sound some divides) (interrupts_lawful.lawful m bs H bound some interrupts)

  pub steps_pass : (S L R H : ℕ) → 1 ≤ S → 1 ≤ H → Every (λ (l : Load). l.period ∣ H) ls → EveryBound (λ (b : Bound). b.load.period ∣ H) bs →
      Passes asks S L R ↔ ((t : ℕ) → 1 ≤ t → t ≤ H → At t → asks t ≤ supply S L R t)
  steps_pass S L R H slot some divides interrupts =
      let lawful : Lawful asks H = asks_lawful H some divides interrupts in (
        λ passes t p h step. passes t p,
        λ at-steps. demand_decides asks S L R H slot lawful (steps_decide At asks S L R H slot lawful.none rises at-steps),
      )

  -- where it steps a deadline falls
  pub asks_step : (x : ℕ) → StepsAt asks x → At x
  asks_step x st = steps_rise At asks x rises st

  module _ (on : EveryBound (λ (b : Bound). (1 ≤ b.processor) × (b.processor ≤ m)) bs) where
    zero_none : asks 0 ≡ 0
    zero_none = omega (arith, masked_zero B ls sound, greatest_zero bs bound m)

    some_asked : (x : ℕ) → At x → 1 ≤ asks x
    some_asked x at =
        ⊎_elim
        (λ (st : Step ls x). omega (arith, some_steps ls x sound st.1, masked_above B ls x))
        (λ (st : Step (map (λ (b : Bound). b.load) bs) x). omega (arith, asked_there m bs x on bound st.1))
        at

    -- a deadline may fall where the demand does not step, at the end of the gain or where another processor's is the greatest, but it
    -- has stepped there or before
    stepped : (x : ℕ) → At x → (k : ℕ) × (k ≤ x) × StepsAt asks k
    stepped x at = some_step asks x zero_none (some_asked x at)

    module _ (S L R t : ℕ) {w s : ℕ} (slot : 1 ≤ S) (c : Closest asks S L R t w s) where
      -- so it is no closer there than at the closest length, and before that less close
      pub none_closer : (x : ℕ) → At x → s - w ≤ supply S L R x - asks x
      none_closer x at =
          let k = stepped x at in
          closest_of_all asks S L R t w s k.0 x slot c k.2 k.1

      pub earlier_wider : (x : ℕ) → At x → x < t → s - w < supply S L R x - asks x
      earlier_wider x at before =
          let k = stepped x at in
          closest_first asks S L R t w s k.0 x slot c k.2 k.1 before
