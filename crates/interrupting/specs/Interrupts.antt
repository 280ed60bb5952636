-- The load of interrupts: what those of one processor ask for in a window, the report's Eq. 9, and the greatest of that over
-- processors, Eq. 10, which every server has beside the demand of its tasks. Document 02, Req 08 (RULES 2.7).
use Rattle.std.specs.Prelude.{ℕ, zero, suc, ◌+◌, ◌*◌, ◌-◌, ◌/◌, ◌≤◌, max, List, [], ◌∷◌, ◌++◌, cond, eqb, length, get_or}
use Rattle.demand.specs.Load.{Load, Sound, Small, loads_of}
use Rattle.demand.specs.Demand.{demand}

-- an interrupt as it asks: on its processor, a load of its cost C, the deadline D − J and its period T
pub record Bound : Type 0 where
  pub processor : ℕ
  pub load : Load

-- the loads of those on processor p, in order
unfoldable pub bound_to : (p : ℕ) → List Bound → List Load
bound_to p [] = []
bound_to p (b ∷ bs) = cond (eqb b.processor p) (b.load ∷ bound_to p bs) (bound_to p bs)

-- what those on processor p must have had in a window of length t
unfoldable pub interrupt_demand : (p : ℕ) → List Bound → ℕ → ℕ
interrupt_demand p bs t = demand (bound_to p bs) t

-- the greatest of that over processors 1 to m
unfoldable pub greatest : (m : ℕ) → List Bound → ℕ → ℕ
greatest zero bs t = 0
greatest (suc m) bs t = max (greatest m bs t) (interrupt_demand (suc m) bs t)

-- the highest processor that has an interrupt; 0 for none
unfoldable pub highest : List Bound → ℕ
highest [] = 0
highest (b ∷ bs) = max b.processor (highest bs)

-- the greatest over all processors that have one
unfoldable pub greatest_of_all : List Bound → ℕ → ℕ
greatest_of_all bs = greatest (highest bs) bs

-- the numbers of interrupts, four for each, one behind the other
unfoldable pub bound_numbers : List Bound → List ℕ
bound_numbers [] = []
bound_numbers (b ∷ bs) = b.processor ∷ b.load.cost ∷ b.load.deadline ∷ b.load.period ∷ bound_numbers bs

-- the i-th of them, from 0, where the first stands at `from`
abbrev pub bound_at : (numbers : List ℕ) → (from i : ℕ) → Bound
bound_at numbers from i =
    record {
      processor = get_or numbers (from + 4 * i) 0;
      load = record { cost = get_or numbers (from + 4 * i + 1) 0; deadline = get_or numbers (from + 4 * i + 2) 0; period = get_or numbers (from + 4 * i + 3) 0 };
    }

-- the first k of them, in order
unfoldable pub bounds_of : (numbers : List ℕ) → (from k : ℕ) → List Bound
bounds_of numbers from zero = []
bounds_of numbers from (suc k) = bounds_of numbers from k ++ (bound_at numbers from k ∷ [])

-- how many stand behind n loads, up to the end of the slice
abbrev pub behind : (numbers : List ℕ) → (n : ℕ) → ℕ
behind numbers n = (length numbers - 3 * n) / 4

unfoldable pub interrupts_of : (numbers : List ℕ) → (n : ℕ) → List Bound
interrupts_of numbers n = bounds_of numbers (3 * n) (behind numbers n)

-- what n loads and the interrupts behind them ask
unfoldable pub asked : (numbers : List ℕ) → (n : ℕ) → ℕ → ℕ
asked numbers n t = demand (loads_of numbers n) t + greatest_of_all (interrupts_of numbers n) t

-- it has a processor, from 1, and its load is sound and small
pub record Numbered (b : Bound) : Type 0 where
  pub there : 1 ≤ b.processor
  pub sound : Sound b.load
  pub small : Small b.load

abbrev pub EveryBound : (Bound → Type 0) → List Bound → Type 0
EveryBound P [] = Unit {0}
EveryBound P (b ∷ bs) = P b × EveryBound P bs

-- the processors never fall, so that the interrupts of one processor stand together
abbrev pub Ordered : List Bound → Type 0
Ordered [] = Unit {0}
Ordered (b ∷ bs) = EveryBound (λ (c : Bound). b.processor ≤ c.processor) bs × Ordered bs
