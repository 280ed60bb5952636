-- A load is what a task asks of its server: a cost, a deadline and a period, in whole ticks; as the file has them, C, D and T,
-- or as charged, c, d and T. Loads stand in one slice of numbers, three for each, one load behind the other.
use Rattle.std.specs.Prelude.{ℕ, zero, suc, ◌+◌, ◌*◌, ◌^◌, ◌≤◌, ◌<◌, List, [], ◌∷◌, ◌++◌, length, get_or}

pub record Load : Type 0 where
  pub cost : ℕ
  pub deadline : ℕ
  pub period : ℕ

-- 1 ≤ c, and 1 ≤ d ≤ T
pub record Sound (l : Load) : Type 0 where
  pub some : 1 ≤ l.cost
  pub due : 1 ≤ l.deadline
  pub constrained : l.deadline ≤ l.period

-- c ≤ d: alone, the load can be met
abbrev pub Meets : Load → Type 0
Meets l = l.cost ≤ l.deadline

-- small enough for the sums of 256 loads: overheads add less than 2 ^ 18 to a cost
pub record Small (l : Load) : Type 0 where
  pub cost_small : l.cost ≤ l.period + 2 ^ 18
  pub period_small : l.period < 2 ^ 36

abbrev pub Every : {A : Type 0} → (A → Type 0) → List A → Type 0
Every P [] = Unit {0}
Every P (x ∷ xs) = P x × Every P xs

-- f 0, f 1, .. f (n − 1)
unfoldable pub each : {A : Type 0} → (ℕ → A) → ℕ → List A
each f zero = []
each f (suc n) = each f n ++ (f n ∷ [])

-- the i-th load of a slice, from 0
abbrev pub load_at : (numbers : List ℕ) → ℕ → Load
load_at numbers i = record { cost = get_or numbers (3 * i) 0; deadline = get_or numbers (3 * i + 1) 0; period = get_or numbers (3 * i + 2) 0 }

-- the first n loads of a slice, in order
abbrev pub loads_of : (numbers : List ℕ) → ℕ → List Load
loads_of numbers n = each (load_at numbers) n

-- what a function over a slice of loads asks of it
pub record Loaded (numbers : List ℕ) (n : ℕ) : Type 0 where
  pub there : 3 * n ≤ length numbers
  pub few : n ≤ 256
  pub sound : Every Sound (loads_of numbers n)
  pub small : Every Small (loads_of numbers n)
