-- A line for each of a list, in order, and the figures of each of them.
-- Document 01, "Lines of hexadecimal" (RULES 5).
use Rattle.std.specs.Prelude.{ℕ, ◌-◌, List, [], ◌∷◌, ◌++◌, get_or}

unfoldable pub each_line : {A : Type 0} → (line : A → List ℕ) → List A → List ℕ
each_line line [] = []
each_line line (x ∷ xs) = line x ++ each_line line xs

-- the figures of the line of place k, from 1
unfoldable pub each_figures : {A : Type 0} → (values : A → List ℕ) → (none : A) → List A → ℕ → List ℕ
each_figures values none xs k = values (get_or xs (k - 1) none)
