-- A server's loads and its entry loss, from the header and its members: house charging applied to the members' own figures.
-- Document 01, "The numbers of a task set" (RULES 1.3); document 02, Req 07. Members are tasks' own figures; charged they are loads.
use Rattle.std.specs.Prelude.{ℕ, ◌+◌, ◌*◌, ◌^◌, ◌≤◌, ◌<◌, max, List, [], ◌∷◌, map, length, get_or}
use Rattle.charging.specs.Charging.{effective_deadline, effective_cost, entry_loss}
use Rattle.demand.specs.Load.{Load}
use Rattle.tasks.specs.declared.set.Header.{Header}
use Rattle.tasks.specs.Set.{longest_period}
use Rattle.loads.specs.Figures.{Figures, figures_at}

-- a load's three numbers, and those of many loads behind each other
abbrev pub numbers_in : Load → List ℕ
numbers_in l = l.cost ∷ l.deadline ∷ l.period ∷ []

unfoldable pub numbers_of : List Load → List ℕ
numbers_of [] = []
numbers_of (l ∷ ls) = l.cost ∷ l.deadline ∷ l.period ∷ numbers_of ls

-- the cache cost of a server: the largest among its members'
unfoldable pub cache_of : (members : List Figures) → ℕ
cache_of [] = 0
cache_of (f ∷ members) = max f.cache (cache_of members)

-- a member as a server of this cache cost has it: c, d and T
unfoldable pub charged_in : Header → (cache : ℕ) → Figures → Load
charged_in h cache f =
    record {
      cost = effective_cost f.cost h.relo h.ctswo cache;
      deadline = effective_deadline f.deadline h.relj;
      period = f.period;
    }

-- the loads of a server, in the order of its members
unfoldable pub server_loads : Header → (members : List Figures) → List Load
server_loads h members = map (charged_in h (cache_of members)) members

-- the entry loss of a server's reserve
unfoldable pub server_loss : Header → (members : List Figures) → ℕ
server_loss h members = entry_loss h.resd (cache_of members)

-- what charging asks of a member: rows 6 and 8 leave 1 ≤ C ≤ D ≤ T ≤ 1,000,000 and RelJ < D
pub record Member (h : Header) (f : Figures) : Type 0 where
  pub some : 1 ≤ f.cost
  pub meets : f.cost ≤ f.deadline
  pub constrained : f.deadline ≤ f.period
  pub short : f.period ≤ longest_period
  pub early : h.relj < f.deadline

-- the overheads have four digits at most, as their fields do
pub record Overheads (h : Header) : Type 0 where
  pub release : h.relo < 2 ^ 16
  pub switch : h.ctswo < 2 ^ 16
  pub delay : h.resd < 2 ^ 16

-- the cache cost of a task has, too
abbrev pub SmallCost : Figures → Type 0
SmallCost f = f.cache < 2 ^ 16

-- what charging the first n places asks of the slices
pub record Charging (h : Header) (cache : ℕ) (figures places : List ℕ) (n : ℕ) (loads : List ℕ) : Type 0 where
  pub places_there : n ≤ length places
  pub room : 3 * n ≤ length loads
  pub cache_small : cache < 2 ^ 32
  pub there : (i : ℕ) → i < n → 4 * get_or places i 0 + 3 < length figures
  pub members : (i : ℕ) → i < n → Member h (figures_at figures (get_or places i 0))
