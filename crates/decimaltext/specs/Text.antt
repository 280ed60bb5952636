-- A number as text in decimal: its digits, the highest first, without leading zeros; "0" for 0.
use Rattle.std.specs.Prelude.{ℕ, zero, suc, ◌+◌, ◌/◌, ◌%◌, List, [], ◌∷◌, ◌++◌}

-- the digits of a number, none for 0, where the steps are no fewer than the number
unfoldable pub digits_in : (steps : ℕ) → ℕ → List ℕ
digits_in zero m = []
digits_in (suc steps) zero = []
digits_in (suc steps) (suc m) = digits_in steps (suc m / 10) ++ ((48 + suc m % 10) ∷ [])

abbrev pub digits_of : ℕ → List ℕ
digits_of m = digits_in m m

-- the last digit is there for 0 too
unfoldable pub decimal_text : ℕ → List ℕ
decimal_text n = digits_of (n / 10) ++ ((48 + n % 10) ∷ [])
