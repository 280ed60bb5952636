-- The sixteen hexadecimal digits 0-9 and A-F as bytes, and their values.
-- Document 01, "Lines of hexadecimal" (RULES 5).
use Rattle.std.specs.Prelude.{ℕ, ◌+◌, ◌-◌, List, [], ◌∷◌, Bool, true, cond, ◌&&◌, ◌||◌, leb, ltb}

-- 0-9 are the bytes 48 to 57, A-F the bytes 65 to 70
unfoldable pub legal : ℕ → Bool
legal b = (leb 48 b && leb b 57) || (leb 65 b && leb b 70)

-- the value of a legal digit
unfoldable pub value_of : ℕ → ℕ
value_of b = cond (leb b 57) (b - 48) (b - 55)

-- the digit of a value below 16
unfoldable pub digit_of : ℕ → ℕ
digit_of v = cond (ltb v 10) (48 + v) (55 + v)

unfoldable pub all_legal : List ℕ → Bool
all_legal [] = true
all_legal (b ∷ bs) = legal b && all_legal bs
