-- The tasks of one server. A placement is the list of each task's server, in file order; a task's place is its index there, from 0.
-- Document 01, "From tasks to servers to ring", rule 1 (RULES 3.1).
use Rattle.std.specs.Prelude.{ℕ, suc, List, [], ◌∷◌, Bool, true, false, eqb}

abbrev pub keep : {A : Type 0} → Bool → A → List A → List A
keep true x xs = x ∷ xs
keep false x xs = xs

-- the places of the tasks of server q, the first task of the placement at place i
unfoldable pub places_from : (i : ℕ) → (placement : List ℕ) → (q : ℕ) → List ℕ
places_from i [] q = []
places_from i (a ∷ placement) q = keep (eqb a q) i (places_from (suc i) placement q)

-- the places of the tasks of server q, in file order
abbrev pub places_in : (placement : List ℕ) → (q : ℕ) → List ℕ
places_in placement q = places_from 0 placement q

-- what belongs to the tasks of server q, in file order; a task past the placement's end is in no server yet
unfoldable pub chosen : {A : Type 0} → List A → (placement : List ℕ) → (q : ℕ) → List A
chosen [] placement q = []
chosen (x ∷ xs) [] q = []
chosen (x ∷ xs) (a ∷ placement) q = keep (eqb a q) x (chosen xs placement q)
