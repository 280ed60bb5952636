-- What is claimed of the three definitions that compute: each is what its record says, and nothing else is.
-- They are proved in proofs/Claims.antt.
use Rattle.std.specs.Prelude.{ℕ, ◌≤◌, ◌<◌, ◌≡◌, ◌↔◌, List, None, Some}
use Rattle.wholes.specs.Measure.{CommonMeasure, common_measure}
use Rattle.wholes.specs.Multiple.{LeastMultiple, least_multiple, LeastMultipleOf, least_multiple_of, within}
use Rattle.wholes.specs.Ceiling.{Ceiling, ceiling_of}

-- the common measure of two numbers
pub record MeasureMeans : Type 0 where
  pub is : (a b : ℕ) → CommonMeasure a b (common_measure a b)
  pub one : (a b g h : ℕ) → CommonMeasure a b g → CommonMeasure a b h → g ≡ h

-- the least common multiple of two numbers
pub record MultipleMeans : Type 0 where
  pub is : (a b : ℕ) → LeastMultiple a b (least_multiple a b)
  pub one : (a b m n : ℕ) → LeastMultiple a b m → LeastMultiple a b n → m ≡ n

-- the least common multiple of a first number and a list
pub record MultipleOfMeans : Type 0 where
  pub is : (a : ℕ) (bs : List ℕ) → LeastMultipleOf a bs (least_multiple_of a bs)
  pub one : (a : ℕ) (bs : List ℕ) (m n : ℕ) → LeastMultipleOf a bs m → LeastMultipleOf a bs n → m ≡ n

-- under a limit: the number itself exactly where it is at most the limit, none exactly where it is past it
pub record WithinMeans : Type 0 where
  pub number : (limit m n : ℕ) → (within limit m ≡ Some n) ↔ ((n ≡ m) × (m ≤ limit))
  pub none : (limit m : ℕ) → (within limit m ≡ None) ↔ (limit < m)

-- a quotient rounded up
pub record CeilingMeans : Type 0 where
  pub is : (a b : ℕ) → 1 ≤ b → Ceiling a b (ceiling_of a b)
  pub one : (a b k j : ℕ) → Ceiling a b k → Ceiling a b j → k ≡ j
