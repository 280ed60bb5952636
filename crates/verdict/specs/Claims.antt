-- What is claimed of the definitions of this crate, each claim as a type. They are proved in proofs/Claims.antt.
use Rattle.std.specs.Prelude.{ℕ, ◌+◌, ◌-◌, ◌≤◌, ◌<◌, ◌≡◌, ◌↔◌, true, false, List, eqb}
use Rattle.demand.specs.Load.{Load, Sound, Every}
use Rattle.demand.specs.Lawful.{Lawful}
use Rattle.demand.specs.Supply.{Allowed, supply}
use Rattle.demand.specs.Passes.{Passes}
use Rattle.interrupting.specs.Interrupts.{Bound, EveryBound, greatest}
use Rattle.masking.specs.Masking.{masked_demand}
use Rattle.steps.specs.Stepping.{StepsAt}
use Rattle.verdict.specs.Verdict.{first_failing, verdict_of, reading_of, passing, own_horizon}
use Rattle.verdict.specs.Reserve.{smallest_reserve, Smallest}
use Rattle.verdict.specs.declared.answer.Verdict.{Verdict}
use Rattle.verdict.specs.declared.answer.Verdict.TheVariants.{Yes, No}

-- a lawful demand is passing exactly when demand ≤ supply at every length, with no bound on the length
abbrev pub PassingMeans : Type 0
PassingMeans =
    (g : ℕ → ℕ) (H S L R : ℕ) → Lawful g H → 1 ≤ S
    → (passing g H S L R ≡ true → Passes g S L R) × (passing g H S L R ≡ false → Passes g S L R → ⊥)

-- it goes by the smallest failing length alone: what a yes carries touches neither placing nor sizing
abbrev pub PassingByFailing : Type 0
PassingByFailing = (g : ℕ → ℕ) (H S L R : ℕ) → passing g H S L R ≡ eqb (first_failing g H S L R) 0

-- t is the smallest of all lengths at which demand exceeds supply, w the demand and s the supply there
pub record FailsFirst (g : ℕ → ℕ) (S L R t w s : ℕ) : Type 0 where
  pub there : 1 ≤ t
  pub exceeds : s < w
  pub demanded : w ≡ g t
  pub supplied : s ≡ supply S L R t
  pub before : (x : ℕ) → 1 ≤ x → x < t → g x ≤ supply S L R x

-- t is the smallest of all lengths where the demand steps and the difference of supply and demand is smallest; w is the demand and
-- s the supply there. Beside Passes no difference is cut off at 0.
pub record Closest (g : ℕ → ℕ) (S L R t w s : ℕ) : Type 0 where
  pub steps : StepsAt g t
  pub demanded : w ≡ g t
  pub supplied : s ≡ supply S L R t
  pub least : (x : ℕ) → StepsAt g x → s - w ≤ supply S L R x - g x
  pub first : (x : ℕ) → StepsAt g x → x < t → s - w < supply S L R x - g x

-- what a verdict tells: yes with t, w and s exactly when the demand passes and is closest there, no with them exactly when it fails
-- first there
pub record VerdictTells (g : ℕ → ℕ) (S L R : ℕ) (v : Verdict) : Type 0 where
  pub yes_means : (t w s : ℕ) → (v ≡ Yes (record { length = t; demand = w; supply = s })) ↔ (Passes g S L R × Closest g S L R t w s)
  pub no_means : (t w s : ℕ) → (v ≡ No (record { length = t; demand = w; supply = s })) ↔ FailsFirst g S L R t w s

-- the verdict over the lengths up to a horizon tells this of all lengths, for a demand that asks for something somewhere
abbrev pub VerdictMeans : Type 0
VerdictMeans =
    (g : ℕ → ℕ) (H S L R a : ℕ) → Lawful g H → 1 ≤ S → 1 ≤ g a → VerdictTells g S L R (verdict_of g H S L R)

-- the length that a verdict carries is within the horizon
abbrev pub ReadWithin : Type 0
ReadWithin = (g : ℕ → ℕ) (H S L R : ℕ) → (reading_of (verdict_of g H S L R)).length ≤ H

-- one that never asks passes, with three zeros
abbrev pub NothingAsked : Type 0
NothingAsked =
    (g : ℕ → ℕ) (H S L R : ℕ) → 1 ≤ S → ((x : ℕ) → g x ≡ 0) → verdict_of g H S L R ≡ Yes (record { length = 0; demand = 0; supply = 0 })

-- from its first step on no length at all is closer: between steps demand does not rise and supply does not fall
abbrev pub ClosestOfAll : Type 0
ClosestOfAll =
    (g : ℕ → ℕ) (S L R t w s m x : ℕ) → 1 ≤ S → Closest g S L R t w s → StepsAt g m → m ≤ x → s - w ≤ supply S L R x - g x

-- and each length before it, from the first step on, has more to spare, whether the demand steps there or not
abbrev pub ClosestFirst : Type 0
ClosestFirst =
    (g : ℕ → ℕ) (S L R t w s m x : ℕ) → 1 ≤ S → Closest g S L R t w s → StepsAt g m → m ≤ x → x < t → s - w < supply S L R x - g x

-- any two horizons under which the demand is lawful give the same verdict: the file's and a server's own
abbrev pub AnyHorizon : Type 0
AnyHorizon =
    (g : ℕ → ℕ) (H H' S L R : ℕ) → Lawful g H → Lawful g H' → 1 ≤ S
    → verdict_of g H S L R ≡ verdict_of g H' S L R

-- the demand of sound loads and the greatest of sound interrupts are lawful together under their own horizon, however long interrupts
-- are held off
abbrev pub OwnHorizon : Type 0
OwnHorizon =
    (B : ℕ) (ls : List Load) (m : ℕ) (bs : List Bound) (S : ℕ) → Every Sound ls → EveryBound (λ (b : Bound). Sound b.load) bs → 1 ≤ S
    → Lawful (λ t. masked_demand B ls t + greatest m bs t) (own_horizon S ls bs)

-- a larger allowed reserve never turns yes into no, whatever the demand and the horizon
abbrev pub PassingStays : Type 0
PassingStays =
    (g : ℕ → ℕ) (H S L R R' : ℕ) → Allowed S L R → Allowed S L R' → R ≤ R'
    → passing g H S L R ≡ true → passing g H S L R' ≡ true

-- a lawful demand that passes on a whole processor has its smallest reserve
abbrev pub ReserveMeans : Type 0
ReserveMeans =
    (g : ℕ → ℕ) (H S L : ℕ) → Lawful g H → 1 ≤ S → Passes g S L S → Smallest g S L (smallest_reserve g H S L)

-- there is no other
abbrev pub ReserveOne : Type 0
ReserveOne = (g : ℕ → ℕ) (S L R R' : ℕ) → Smallest g S L R → Smallest g S L R' → R ≡ R'

-- one tick less is not allowed, or the demand does not pass with it
abbrev pub OneLess : Type 0
OneLess = (g : ℕ → ℕ) (S L R : ℕ) → 1 ≤ S → Smallest g S L R → Allowed S L (R - 1) → Passes g S L (R - 1) → ⊥
