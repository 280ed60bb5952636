-- The least common multiple of two numbers, and of a first number and a list; and what a function answers under a limit.
-- Document 01: "The horizon H is the least common multiple of S and every T of the file, at most 10,000,000" (RULES 1.4).
use Rattle.std.specs.Prelude.{ℕ, ◌*◌, ◌/◌, ◌≤◌, ◌<◌, List, [], ◌∷◌, cond, leb, length, get_or, None, Option, Some}
use Rattle.std.specs.Int.{◌∣◌}
use Rattle.wholes.specs.Measure.{common_measure}

-- m is a multiple of both, and divides every number that is. The least common multiple with 0 is 0.
pub record LeastMultiple (a b m : ℕ) : Type 0 where
  pub of_first : a ∣ m
  pub of_second : b ∣ m
  pub least : (n : ℕ) → a ∣ n → b ∣ n → m ∣ n

unfoldable pub least_multiple : (a b : ℕ) → ℕ
least_multiple a b = a / common_measure a b * b

-- every number of the list divides m
abbrev pub Divide : List ℕ → ℕ → Type 0
Divide bs m = (i : ℕ) → i < length bs → get_or bs i 0 ∣ m

-- the same of a first number and a list
pub record LeastMultipleOf (a : ℕ) (bs : List ℕ) (m : ℕ) : Type 0 where
  pub of_first : a ∣ m
  pub of_others : Divide bs m
  pub least : (n : ℕ) → a ∣ n → Divide bs n → m ∣ n

unfoldable pub least_multiple_of : ℕ → List ℕ → ℕ
least_multiple_of a [] = a
least_multiple_of a (b ∷ bs) = least_multiple_of (least_multiple a b) bs

-- m itself where it is at most the limit
unfoldable pub within : (limit m : ℕ) → Option ℕ
within limit m = cond (leb m limit) (Some m) None

-- every number of the list is at least 1
abbrev pub AllPositive : List ℕ → Type 0
AllPositive bs = (i : ℕ) → i < length bs → 1 ≤ get_or bs i 0
