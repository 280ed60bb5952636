-- What is claimed of interrupts, each claim as a type. They are proved in proofs/Claims.antt.
-- Document 02, Req 08 (RULES 2.7).
use Rattle.std.specs.Prelude.{ℕ, ◌+◌, ◌≤◌, ◌≡◌, ◌⊎◌, List, [], ◌∷◌, map}
use Rattle.std.specs.Int.{◌∣◌}
use Rattle.demand.specs.Load.{Sound}
use Rattle.demand.specs.Lawful.{Rising, RisesAt, Lawful}
use Rattle.demand.specs.Steps.{Step}
use Rattle.interrupting.specs.Interrupts.{Bound, EveryBound, interrupt_demand, greatest, greatest_of_all}

-- No processor's interrupts ask for more than the greatest, and those of some processor ask for it.
-- Where all stand on processors up to m it is the greatest of all.
pub record GreatestMeans : Type 0 where
  pub most : (m : ℕ) (bs : List Bound) (t p : ℕ) → 1 ≤ p → p ≤ m → interrupt_demand p bs t ≤ greatest m bs t
  pub one : (m : ℕ) (bs : List Bound) (t : ℕ) → 1 ≤ m → (p : ℕ) × (1 ≤ p) × (p ≤ m) × (greatest m bs t ≡ interrupt_demand p bs t)
  pub all : (m : ℕ) (bs : List Bound) → EveryBound (λ (b : Bound). b.processor ≤ m) bs → greatest m bs ≡ greatest_of_all bs

-- The greatest is lawful under every common multiple of the interrupts' periods; it never falls, and rises at their deadlines only.
pub record InterruptsLawful : Type 0 where
  pub lawful : (m : ℕ) (bs : List Bound) (H : ℕ) → EveryBound (λ (b : Bound). Sound b.load) bs → 1 ≤ H
      → EveryBound (λ (b : Bound). b.load.period ∣ H) bs → Lawful (greatest m bs) H
  pub rising : (m : ℕ) (bs : List Bound) → EveryBound (λ (b : Bound). Sound b.load) bs → Rising (greatest m bs)
  pub steps : (m : ℕ) (bs : List Bound) → EveryBound (λ (b : Bound). Sound b.load) bs
      → RisesAt (Step (map (λ (b : Bound). b.load) bs)) (greatest m bs)

-- Two demands together have what both have.
pub record SumsLawful : Type 1 where
  pub lawful : (f g : ℕ → ℕ) (H : ℕ) → Lawful f H → Lawful g H → Lawful (λ t. f t + g t) H
  pub rising : (f g : ℕ → ℕ) → Rising f → Rising g → Rising (λ t. f t + g t)
  pub steps : (A B : ℕ → Type 0) (f g : ℕ → ℕ) → RisesAt A f → RisesAt B g → RisesAt (λ t. A t ⊎ B t) (λ t. f t + g t)

-- Interrupts of two processors do not add up, those of one do: costs 2 and 3, due after 5 of 10 ticks.
abbrev pub bound_on : (processor cost : ℕ) → Bound
bound_on p c = record { processor = p; load = record { cost = c; deadline = 5; period = 10 } }

pub record TwoInterrupts : Type 0 where
  pub apart : greatest 2 (bound_on 1 2 ∷ bound_on 2 3 ∷ []) 5 ≡ 3
  pub together : greatest 2 (bound_on 1 2 ∷ bound_on 1 3 ∷ []) 5 ≡ 5
