-- A line of plain words with numbers in it: quoted text in which each number sign `#` stands for the next number, in decimal.
use Rattle.std.specs.Prelude.{ℕ, ◌+◌, List, [], ◌∷◌, ◌++◌, Bool, cond, eqb, get_or, drop}
use Rattle.decimaltext.specs.Text.{decimal_text}

-- `#` is the byte 35
abbrev pub is_sign : ℕ → Bool
is_sign b = eqb b 35

-- how many numbers stand in the words
unfoldable pub signs : List ℕ → ℕ
signs [] = 0
signs (b ∷ bs) = cond (is_sign b) 1 0 + signs bs

-- a byte of the words: the first number in decimal, or itself; and the numbers that are left behind it
unfoldable pub piece : ℕ → List ℕ → List ℕ
piece b ns = cond (is_sign b) (decimal_text (get_or ns 0 0)) (b ∷ [])

unfoldable pub left : ℕ → List ℕ → List ℕ
left b ns = cond (is_sign b) (drop 1 ns) ns

-- the line: the words with the numbers in them
unfoldable pub said : (words numbers : List ℕ) → List ℕ
said [] ns = []
said (b ∷ bs) ns = piece b ns ++ said bs (left b ns)
