-- A list in most_tasks places, the unused room at a filler: the form in which answers carry a list. For numbers the filler is zero.
-- Document 01: "Unused room is zero in every answer and is not compared." (RULES 6.6)
use Rattle.std.specs.Prelude.{ℕ, zero, suc, ◌-◌, List, [], ◌∷◌, ◌++◌, length, replicate}
use Rattle.tasks.specs.Set.{most_tasks}

abbrev pub pad_with : {A : Type 0} → A → List A → List A
pad_with x xs = xs ++ replicate (most_tasks - length xs) x

abbrev pub padded : List ℕ → List ℕ
padded ns = pad_with 0 ns

-- f 1, f 2, .. f n
unfoldable pub up_to : {A : Type 0} → (ℕ → A) → ℕ → List A
up_to f zero = []
up_to f (suc n) = up_to f n ++ (f (suc n) ∷ [])
