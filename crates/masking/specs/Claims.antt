-- What is claimed of masked interrupts, each claim as a type. They are proved in proofs/Claims.antt.
-- Document 02, Req 04 (RULES 2.6).
use Rattle.std.specs.Prelude.{ℕ, ◌+◌, ◌≤◌, ◌<◌, ◌≡◌, ◌↔◌, ◌⊎◌, List, [], ◌∷◌}
use Rattle.std.specs.Int.{◌∣◌}
use Rattle.demand.specs.Load.{Load, Sound, Meets, Every}
use Rattle.demand.specs.Demand.{demand}
use Rattle.demand.specs.Supply.{Ring}
use Rattle.demand.specs.Passes.{Passes, FakePasses}
use Rattle.demand.specs.Lawful.{RisesAt, Lawful}
use Rattle.demand.specs.Steps.{Step, Some}
use Rattle.masking.specs.Masking.{soonest, latest, masked_demand}

-- soonest and latest are the smallest and the largest d: deadlines of loads, and no deadline is smaller or larger
pub record EndsOf (ls : List Load) : Type 0 where
  pub soonest_one : Some (λ (l : Load). l.deadline ≡ soonest ls) ls
  pub soonest_least : Every (λ (l : Load). soonest ls ≤ l.deadline) ls
  pub latest_one : Some (λ (l : Load). l.deadline ≡ latest ls) ls
  pub latest_most : Every (λ (l : Load). l.deadline ≤ latest ls) ls

abbrev pub Ends : Type 0
Ends = (l : Load) (ls : List Load) → EndsOf (l ∷ ls)

-- A demand gains B at each length from its smallest d up to, but not including, its largest d, and nothing at any other length.
pub record GainsB : Type 0 where
  pub inside : (B : ℕ) (ls : List Load) (t : ℕ) → soonest ls ≤ t → t < latest ls → masked_demand B ls t ≡ demand ls t + B
  pub outside : (B : ℕ) (ls : List Load) (t : ℕ) → (t < soonest ls) ⊎ (latest ls ≤ t) → masked_demand B ls t ≡ demand ls t

-- It stays lawful under every common multiple of the periods, it rises at the loads' own steps only, and is never below what they ask.
pub record MaskedLawful : Type 0 where
  pub lawful : (B : ℕ) (ls : List Load) (H : ℕ) → Every Sound ls → 1 ≤ H → Every (λ (l : Load). l.period ∣ H) ls → Lawful (masked_demand B ls) H
  pub steps : (B : ℕ) (ls : List Load) → Every Sound ls → RisesAt (Step ls) (masked_demand B ls)
  pub above : (B : ℕ) (ls : List Load) (t : ℕ) → demand ls t ≤ masked_demand B ls t

-- With B = 0 nothing is gained; nor with loads of one deadline, so nor with one load alone.
pub record NothingGained : Type 0 where
  pub unmasked : (ls : List Load) (t : ℕ) → masked_demand 0 ls t ≡ demand ls t
  pub equal : (B d : ℕ) (ls : List Load) (t : ℕ) → Every (λ (l : Load). l.deadline ≡ d) ls → masked_demand B ls t ≡ demand ls t
  pub one : (B : ℕ) (l : Load) (t : ℕ) → masked_demand B (l ∷ []) t ≡ demand (l ∷ []) t

-- A task alone still passes on a whole processor, where its cost is no more than its deadline.
abbrev pub AlonePasses : Type 0
AlonePasses = (B : ℕ) (l : Load) (S L : ℕ) → Sound l → Meets l → Passes (masked_demand B (l ∷ [])) S L S

-- The fake-task form gives the same yes or no for B = 0.
abbrev pub FakeAgrees : Type 0
FakeAgrees =
    (ls : List Load) (S L R : ℕ) → Every Sound ls → Ring S L R → Passes (masked_demand 0 ls) S L R ↔ FakePasses (masked_demand 0 ls) S L R

-- For B > 0 it does not: S 10, R 4, loads 1/13/20 and 1/14/20, B 5. At 13 demand 6 exceeds supply 4, but with the fake task it fits
-- into every length.
abbrev pub loads_masked : List Load
loads_masked = record { cost = 1; deadline = 13; period = 20 } ∷ record { cost = 1; deadline = 14; period = 20 } ∷ []

pub record FakeDiffers : Type 0 where
  pub fails : Passes (masked_demand 5 loads_masked) 10 0 4 → ⊥
  pub fake : FakePasses (masked_demand 5 loads_masked) 10 0 4
