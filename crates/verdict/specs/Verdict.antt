-- The verdict on a demand with a reserve, with a length and the demand and the supply there. Document 02, Req 02: yes with the
-- smallest length of those where the demand steps and the slack is smallest. Document 01: no with the smallest failing length.
-- Lengths up to a horizon H are looked at; Claims says when they decide for all.
use Rattle.std.specs.Prelude.{ℕ, zero, suc, ◌^◌, ◌≤◌, ◌<◌, Bool, true, false, List, map, ◌++◌, ltb}
use Rattle.wholes.specs.Multiple.{least_multiple_of}
use Rattle.demand.specs.Load.{Load}
use Rattle.demand.specs.Supply.{supply_past, supply}
use Rattle.interrupting.specs.Interrupts.{Bound}
use Rattle.search.specs.Search.{first_up_to}
use Rattle.steps.specs.Stepping.{steps}
use Rattle.slack.specs.Least.{least_up_to}
use Rattle.slack.specs.Slack.{slack}
use Rattle.verdict.specs.declared.answer.Reading.{Reading}
use Rattle.verdict.specs.declared.answer.Verdict.{Verdict}
use Rattle.verdict.specs.declared.answer.Verdict.TheVariants.{Yes, No}

-- at length t demand exceeds supply
unfoldable pub failing : (g : ℕ → ℕ) → (S L R : ℕ) → ℕ → Bool
failing g S L R t = ltb (supply S L R t) (g t)

-- the smallest failing length up to H, or 0
unfoldable pub first_failing : (g : ℕ → ℕ) → (H S L R : ℕ) → ℕ
first_failing g H S L R = first_up_to (failing g S L R) H

-- the smallest length up to H with the smallest slack, of those where the demand steps; 0 where it never does
unfoldable pub closest : (g : ℕ → ℕ) → (H S L R : ℕ) → ℕ
closest g H S L R = least_up_to (steps g) (slack g S L R) H

-- a length with the demand and the supply there
unfoldable pub reading_at : (g : ℕ → ℕ) → (S L R t : ℕ) → Reading
reading_at g S L R t = record { length = t; demand = g t; supply = supply S L R t }

-- the same past a gap of f
unfoldable pub reading_past : (g : ℕ → ℕ) → (S f t : ℕ) → Reading
reading_past g S f t = record { length = t; demand = g t; supply = supply_past S f t }

-- yes where no length fails, else no
unfoldable pub verdict_at : (g : ℕ → ℕ) → (H S L R : ℕ) → (failing : ℕ) → Verdict
verdict_at g H S L R zero = Yes (reading_at g S L R (closest g H S L R))
verdict_at g H S L R (suc t) = No (reading_at g S L R (suc t))

unfoldable pub verdict_of : (g : ℕ → ℕ) → (H S L R : ℕ) → Verdict
verdict_of g H S L R = verdict_at g H S L R (first_failing g H S L R)

abbrev pub is_yes : Verdict → Bool
is_yes (Yes r) = true
is_yes (No r) = false

-- the reading that it carries
abbrev pub reading_of : Verdict → Reading
reading_of (Yes r) = r
reading_of (No r) = r

-- the verdict is yes
unfoldable pub passing : (g : ℕ → ℕ) → (H S L R : ℕ) → Bool
passing g H S L R = is_yes (verdict_of g H S L R)

-- the horizon of a server alone: the least common multiple of S, the periods of its loads and those of the interrupts
unfoldable pub own_horizon : ℕ → List Load → List Bound → ℕ
own_horizon S ls bs = least_multiple_of S (map (λ (l : Load). l.period) ls ++ map (λ (b : Bound). b.load.period) bs)

-- what the test asks of its numbers
pub record Testable (H S L : ℕ) : Type 0 where
  pub slot_some : 1 ≤ S
  pub slot_small : S < 2 ^ 36
  pub loss_small : L < 2 ^ 36
  pub horizon_small : H < 2 ^ 36
