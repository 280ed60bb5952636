-- A number in decimal: at least one digit, digits 0-9 only, below 2^64; any other text is wrong.
-- The words of the command line that name a processor, a tick, a server or a reserve are read so.
use Rattle.std.specs.Prelude.{ℕ, ◌+◌, ◌*◌, ◌-◌, ◌^◌, List, [], ◌∷◌, Bool, true, cond, ◌&&◌, leb, ltb, None, Option, Some}

-- 0-9 are the bytes 48 to 57
unfoldable pub all_digits : List ℕ → Bool
all_digits [] = true
all_digits (b ∷ bs) = (leb 48 b && leb b 57) && all_digits bs

-- the value of digits that stand behind a number
unfoldable pub value_from : (high : ℕ) → List ℕ → ℕ
value_from high [] = high
value_from high (b ∷ bs) = value_from (high * 10 + (b - 48)) bs

-- the number of digits that stand behind a number
unfoldable pub number_from : (high : ℕ) → List ℕ → Option ℕ
number_from high text =
    cond (all_digits text && ltb (value_from high text) (2 ^ 64)) (Some (value_from high text)) None

-- the number that a text stands for
unfoldable pub decimal_of : List ℕ → Option ℕ
decimal_of [] = None
decimal_of (b ∷ bs) = number_from 0 (b ∷ bs)
