-- What is claimed of a server that is eased, each claim as a type. The proofs stand under the same names in proofs/Claims.antt.
-- Document 02, Req 12 (RULES 3.8).
use Rattle.std.specs.Prelude.{ℕ, ◌≤◌, ◌<◌, ◌≡◌, List, ◌∷◌, ◌++◌, length, get_or}
use Rattle.demand.specs.Supply.{Allowed}
use Rattle.masking.specs.Masking.{soonest, latest}
use Rattle.verdict.specs.Reserve.{Smallest}
use Rattle.tasks.specs.declared.set.Task.{Task}
use Rattle.tasks.specs.declared.set.TaskSet.{TaskSet}
use Rattle.tasks.specs.Set.{masked_ticks, interrupts_in, cache_cost, zero_task}
use Rattle.easing.specs.Eased.{loads_in, cache_in, demand_in, loss_in, smallest_in, PassesIn, ServerOf, Reserved, Eased, with_cost, with_deadline, with_period, with_delay}

-- ---- in the words of the request: all else is equal, both sets are within H, and both servers pass with a whole processor

-- The smallest reserve of the eased server is not above that of the server.
abbrev pub NeverCosts : (set set' : TaskSet) (server server' : List Task) → Type 0
NeverCosts set set' server server' = Reserved set server → Reserved set' server' → smallest_in set' server' ≤ smallest_in set server

-- header and interrupts are equal
pub record SameBoard (set set' : TaskSet) : Type 0 where
  pub header : set'.header ≡ set.header
  pub interrupts : interrupts_in set' ≡ interrupts_in set

-- A server loses a task, but not its last.
abbrev pub TaskGoes : Type 0
TaskGoes =
    (set set' : TaskSet) (before : List Task) (t : Task) (after : List Task) → SameBoard set set' →
    NeverCosts set set' (before ++ (t ∷ after)) (before ++ after)

-- A C falls.
abbrev pub CostFalls : Type 0
CostFalls =
    (set set' : TaskSet) (before : List Task) (t : Task) (after : List Task) (C : ℕ) → SameBoard set set' → C ≤ t.cost →
    NeverCosts set set' (before ++ (t ∷ after)) (before ++ (with_cost t C ∷ after))

-- A T rises.
abbrev pub PeriodRises : Type 0
PeriodRises =
    (set set' : TaskSet) (before : List Task) (t : Task) (after : List Task) (T : ℕ) → SameBoard set set' → t.period ≤ T →
    NeverCosts set set' (before ++ (t ∷ after)) (before ++ (with_period t T ∷ after))

-- ResD falls.
abbrev pub DelayFalls : Type 0
DelayFalls =
    (set set' : TaskSet) (server : List Task) (ResD : ℕ) → ResD ≤ set.header.resd → set'.header ≡ with_delay set.header ResD →
    interrupts_in set' ≡ interrupts_in set → NeverCosts set set' server server

-- ---- whatever is eased

-- However a server is eased, in one of these ways or in several at once, its smallest reserve does not rise.
abbrev pub EasingNeverCosts : Type 0
EasingNeverCosts = (set set' : TaskSet) (server server' : List Task) → Eased set set' server server' → NeverCosts set set' server server'

-- Nor where a D rises and B is 0. With B it may: examples `Edges`.
abbrev pub DeadlineRises : Type 0
DeadlineRises =
    (set set' : TaskSet) (before : List Task) (t : Task) (after : List Task) (D : ℕ) → SameBoard set set' → masked_ticks set.header ≡ 0 →
    t.deadline ≤ D → NeverCosts set set' (before ++ (t ∷ after)) (before ++ (with_deadline t D ∷ after))

-- Every reserve that is allowed to a server, and with which it passes, is allowed to it when it is eased, and it passes with it.
pub record StillPasses (set set' : TaskSet) (server server' : List Task) (R : ℕ) : Type 0 where
  pub allowed : Allowed set'.header.slot (loss_in set' server') R
  pub passes : PassesIn set' server' R

abbrev pub EasedPasses : Type 0
EasedPasses =
    (set set' : TaskSet) (server server' : List Task) (R : ℕ) → Eased set set' server server' → ServerOf set server →
    Allowed set.header.slot (loss_in set server) R → PassesIn set server R → StillPasses set set' server server' R

-- ---- what stands under it

-- A demand that is no larger at any length and an entry loss that is no larger have a smallest reserve that is no larger, on the ring
-- and with a whole processor: a loss that falls forbids no reserve.
abbrev pub ReserveFalls : Type 0
ReserveFalls =
    (g g' : ℕ → ℕ) (S L L' R R' : ℕ) → ((t : ℕ) → 1 ≤ t → g' t ≤ g t) → L' ≤ L → Smallest g S L R → Smallest g' S L' R' → R' ≤ R

-- Where B enters: of the tasks that are left the smallest d is no smaller and the largest no larger, so that a length that gains B
-- gained it before.
pub record StretchWithin (set set' : TaskSet) (server server' : List Task) : Type 0 where
  pub from : soonest (loads_in set server) ≤ soonest (loads_in set' server')
  pub until : latest (loads_in set' server') ≤ latest (loads_in set server)

abbrev pub StretchShrinks : Type 0
StretchShrinks =
    (set set' : TaskSet) (server server' : List Task) → Eased set set' server server' → 1 ≤ masked_ticks set'.header → 1 ≤ length server' →
    StretchWithin set set' server server'

-- Where cache costs enter: the largest is that of a task that is left, and is not above what it was. So no c rises by it, nor the entry loss.
pub record LargestOfLeft (set set' : TaskSet) (server server' : List Task) : Type 0 where
  pub one : (i : ℕ) × (i < length server') × (cache_cost set'.header (get_or server' i zero_task) ≡ cache_in set' server')
  pub falls : cache_in set' server' ≤ cache_in set server
  pub loss : loss_in set' server' ≤ loss_in set server

abbrev pub LargestFalls : Type 0
LargestFalls =
    (set set' : TaskSet) (server server' : List Task) → Eased set set' server server' → 1 ≤ length server' → LargestOfLeft set set' server server'

-- So at no length is more asked.
abbrev pub LessAsked : Type 0
LessAsked =
    (set set' : TaskSet) (server server' : List Task) → Eased set set' server server' → ServerOf set server → (t : ℕ) →
    demand_in set' server' t ≤ demand_in set server t
