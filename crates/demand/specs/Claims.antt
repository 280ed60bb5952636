-- What is claimed of demand and supply, each claim as a type. They are proved in proofs/Claims.antt.
-- Document 01, "Demand, supply, and the report's test" (RULES 2), and "Shortcuts that give wrong rotas".
use Rattle.std.specs.Prelude.{ℕ, ◌+◌, ◌-◌, ◌/◌, ◌≤◌, ◌<◌, ◌≡◌, ◌↔◌, List, [], ◌∷◌}
use Rattle.std.specs.Int.{◌∣◌}
use Rattle.demand.specs.Load.{Load, Sound, Meets, Every}
use Rattle.demand.specs.Demand.{jobs, demand}
use Rattle.demand.specs.Supply.{Ring, Allowed, gap, supply_past, last_with, supply}
use Rattle.demand.specs.Passes.{Passes, fake, FakePasses}
use Rattle.demand.specs.Lawful.{Rising, RisesAt, Lawful}
use Rattle.demand.specs.Steps.{Step}

-- The literal forms are the computed ones: jobs by one division, and supply by the gap, which is 0 for a whole processor.
pub record LiteralForms : Type 0 where
  pub jobs_form : (d T t : ℕ) → 1 ≤ T → d ≤ T → jobs d T t ≡ (t + T - d) / T
  pub supply_form : (S L R t : ℕ) → 1 ≤ S → supply S L R t ≡ supply_past S (gap S L R) t

-- The last length with supply v: at it the supply is v, and past it more.
pub record LastWith : Type 0 where
  pub at : (S f v : ℕ) → f < S → supply_past S f (last_with S f v) ≡ v
  pub past : (S f v t : ℕ) → f < S → last_with S f v < t → v < supply_past S f t

-- Lengths 1 to H decide for all, for any demand g and supply s: if H ticks more never add more than g H to the demand,
-- nor less than s H to the supply.
abbrev pub HorizonDecides : Type 0
HorizonDecides =
    (g s : ℕ → ℕ) (H : ℕ) → 1 ≤ H → ((t : ℕ) → g (t + H) ≤ g t + g H) → ((t : ℕ) → s t + s H ≤ s (t + H)) →
    ((t : ℕ) → 1 ≤ t → t ≤ H → g t ≤ s t) →
    (t : ℕ) → 1 ≤ t → g t ≤ s t

-- So the lengths 1 to H decide whether a lawful demand passes. That S divides H is not needed.
abbrev pub DemandDecides : Type 0
DemandDecides =
    (g : ℕ → ℕ) (S L R H : ℕ) → 1 ≤ S → Lawful g H →
    ((t : ℕ) → 1 ≤ t → t ≤ H → g t ≤ supply S L R t) →
    Passes g S L R

-- Within 1 to H the lengths where a demand steps decide, in the supply form.
abbrev pub StepsDecide : Type 1
StepsDecide =
    (Step : ℕ → Type 0) (g : ℕ → ℕ) (S L R H : ℕ) → 1 ≤ S → g 0 ≡ 0 → RisesAt Step g →
    ((t : ℕ) → 1 ≤ t → t ≤ H → Step t → g t ≤ supply S L R t) →
    (t : ℕ) → 1 ≤ t → t ≤ H → g t ≤ supply S L R t

-- The demand of sound loads is lawful under every common multiple of their periods, the file's horizon or a server's own;
-- it rises, at steps only, and it is there once a load is.
pub record LoadsLawful : Type 0 where
  pub lawful : (ls : List Load) (H : ℕ) → Every Sound ls → 1 ≤ H → Every (λ (l : Load). l.period ∣ H) ls → Lawful (demand ls) H
  pub rising : (ls : List Load) → Every Sound ls → Rising (demand ls)
  pub steps : (ls : List Load) → Every Sound ls → RisesAt (Step ls) (demand ls)
  pub some : (l : Load) (ls : List Load) → Sound l → 1 ≤ demand (l ∷ ls) l.deadline

-- Over all lengths the report's fake-task form gives the same yes or no.
abbrev pub FakeAgrees : Type 0
FakeAgrees = (g : ℕ → ℕ) (S L R : ℕ) → Rising g → Ring S L R → Passes g S L R ↔ FakePasses g S L R

-- At single lengths the two forms differ: example F, S 4, load 2/5/8, L 0, R 1.
-- At 5 demand exceeds supply, but the fake-task sum does not exceed the length. At 7 it does.
abbrev pub load_f : Load
load_f = record { cost = 2; deadline = 5; period = 8 }

pub record FakeDiffers : Type 0 where
  pub demand_5 : demand (load_f ∷ []) 5 ≡ 2
  pub supply_5 : supply 4 0 1 5 ≡ 1
  pub sum_5 : demand (load_f ∷ []) 5 + fake 4 (4 - 1 + 0) 5 ≡ 5
  pub sum_7 : demand (load_f ∷ []) 7 + fake 4 (4 - 1 + 0) 7 ≡ 8

-- The fake-task sum at one length can rise as R grows, past the length even: S 4, load 3/6/8, L 0, length 6,
-- with R 1 the sum is 6, with R 2 it is 7.
abbrev pub load_rising : Load
load_rising = record { cost = 3; deadline = 6; period = 8 }

pub record FakeRises : Type 0 where
  pub sum_1 : demand (load_rising ∷ []) 6 + fake 4 (4 - 1 + 0) 6 ≡ 6
  pub sum_2 : demand (load_rising ∷ []) 6 + fake 4 (4 - 2 + 0) 6 ≡ 7

-- As R grows the verdict over all lengths never turns from yes to no, whatever the demand.
abbrev pub NeverTurns : Type 0
NeverTurns =
    (g : ℕ → ℕ) (S L R R' : ℕ) → Allowed S L R → Allowed S L R' → R ≤ R' → Passes g S L R → Passes g S L R'

-- A task alone passes on a whole processor, where its cost is no more than its deadline.
abbrev pub AlonePasses : Type 0
AlonePasses = (l : Load) (S L : ℕ) → Sound l → Meets l → Passes (demand (l ∷ [])) S L S

-- A reserve that the entry loss eats up supplies nothing, so a demand falls short wherever there is any.
pub record LossNeverPasses : Type 0 where
  pub nothing : (S L R t : ℕ) → R < S → R ≤ L → supply S L R t ≡ 0
  pub short : (g : ℕ → ℕ) (S L R t : ℕ) → 1 ≤ g t → R < S → R ≤ L → supply S L R t < g t
