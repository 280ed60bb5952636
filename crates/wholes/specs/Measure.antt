-- The common measure of two whole numbers: the greatest that divides both. The least common multiple is made from it.
-- Document 01, "Places and their forms": by remainders, the second number falling. The code does it in a loop, as request 06 asks.
use Rattle.std.specs.Prelude.{ℕ, zero, suc, ◌%◌}
use Rattle.std.specs.Int.{◌∣◌}

-- g divides both, and whatever divides both divides g. The common measure of 0 and 0 is 0.
pub record CommonMeasure (a b g : ℕ) : Type 0 where
  pub of_first : g ∣ a
  pub of_second : g ∣ b
  pub greatest : (d : ℕ) → d ∣ a → d ∣ b → d ∣ g

-- at most this many remainders
unfoldable pub measure_in : (turns a b : ℕ) → ℕ
measure_in zero a b = a
measure_in (suc turns) a zero = a
measure_in (suc turns) a (suc b) = measure_in turns (suc b) (a % suc b)

-- the second number falls at each turn, so b turns are enough
unfoldable pub common_measure : (a b : ℕ) → ℕ
common_measure a b = measure_in b a b
