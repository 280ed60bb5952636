-- What is claimed of the order in which tasks are placed, each claim as a type. The proofs stand under the same names in
-- proofs/Claims.antt. Document 02, Req 05.
use Rattle.std.specs.Prelude.{ℕ, ◌*◌, ◌≤◌, ◌<◌, ◌≡◌, ◌⊎◌, List, length, get_or}
use Rattle.loads.specs.Figures.{Figures}
use Rattle.packing.specs.declared.Order.{Order}
use Rattle.packing.specs.declared.Order.TheVariants.{File, Falling, Rising}
use Rattle.packing.specs.Turns.{task_at, turns_of}

-- the place of the task whose turn is j, and its figures
abbrev pub place_at : Order → List Figures → (j : ℕ) → ℕ
place_at order figures j = get_or (turns_of order figures) j 0

abbrev pub task_in : Order → List Figures → (j : ℕ) → Figures
task_in order figures j = task_at figures (place_at order figures j)

-- every task of the file has a turn, and no task has two
pub record EachOnce (order : Order) (figures : List Figures) : Type 0 where
  pub as_many : length (turns_of order figures) ≡ length figures
  pub there : (j : ℕ) → j < length figures → place_at order figures j < length figures
  pub every : (i : ℕ) → i < length figures → (j : ℕ) × (j < length figures) × (place_at order figures j ≡ i)
  pub once : (j k : ℕ) → j < length figures → k < length figures → place_at order figures j ≡ place_at order figures k → j ≡ k

-- the load of f is below that of g, or the same: C/T of f < C/T of g, or =
abbrev pub Lighter : Figures → Figures → Type 0
Lighter f g = f.cost * g.period < g.cost * f.period

abbrev pub SameLoad : Figures → Figures → Type 0
SameLoad f g = f.cost * g.period ≡ g.cost * f.period

-- the task at place i may have its turn before the one at place p: by the file, or by its load, and by the file where loads are equal
abbrev pub Before : Order → List Figures → (i p : ℕ) → Type 0
Before File figures i p = i < p
Before Falling figures i p = Lighter (task_at figures p) (task_at figures i) ⊎ (SameLoad (task_at figures i) (task_at figures p) × (i < p))
Before Rising figures i p = Lighter (task_at figures i) (task_at figures p) ⊎ (SameLoad (task_at figures i) (task_at figures p) × (i < p))

-- The order is the file's tasks, each once, sorted by their loads, equal loads in file order.
pub record TurnsSorted (order : Order) (figures : List Figures) : Type 0 where
  pub each_once : EachOnce order figures
  pub sorted : (j k : ℕ) → j < k → k < length figures → Before order figures (place_at order figures j) (place_at order figures k)

-- Whatever the order, where every task has a period.
abbrev pub Sorted : Type 0
Sorted = (order : Order) (figures : List Figures) → ((i : ℕ) → i < length figures → 1 ≤ (task_at figures i).period) → TurnsSorted order figures

-- In file order the turns are the places themselves.
abbrev pub FileOrder : Type 0
FileOrder = (figures : List Figures) (j : ℕ) → j < length figures → place_at File figures j ≡ j
