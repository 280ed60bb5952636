-- The names of a list of file names: each is ended by LF or by the end.
-- Document 02, Req 03 (RULES 9).
use Rattle.std.specs.Prelude.{ℕ, List, [], ◌∷◌, cond, eqb}
use Rattle.frames.specs.Table.{LF}

-- a byte before the first of some names; before none it is one of its own
abbrev pub onto : ℕ → List (List ℕ) → List (List ℕ)
onto b [] = (b ∷ []) ∷ []
onto b (name ∷ names) = (b ∷ name) ∷ names

-- what an LF ends is a name, an empty one too; what the end ends is one unless it is empty
unfoldable pub names : (list : List ℕ) → List (List ℕ)
names [] = []
names (b ∷ list) = cond (eqb b LF) ([] ∷ names list) (onto b (names list))

-- the most bytes of a name that is opened
abbrev pub longest_name : ℕ
longest_name = 255
