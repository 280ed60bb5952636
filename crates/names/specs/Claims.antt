-- What is promised of names: they are those of the whole list, wherever the reads cut it, and the last may go without its LF.
-- The proofs stand under the same names in proofs/Claims.
use Rattle.std.specs.Prelude.{ℕ, List, [], ◌∷◌, ◌++◌, map, ◌≡◌}
use Rattle.frames.specs.Table.{LF}
use Rattle.quoted.specs.Quoted.{bytes_of}
use Rattle.names.specs.Names.{names}
use Rattle.names.specs.Parts.{names_in}

-- parts, one behind the other
abbrev pub whole : List (List ℕ) → List ℕ
whole [] = []
whole (part ∷ parts) = part ++ whole parts

-- The names of a list that comes in parts are those of the whole list.
abbrev pub AnyParts : Type 0
AnyParts = (parts : List (List ℕ)) → names_in [] parts ≡ names (whole parts)

-- A last name is ended by LF or by the end, alike.
abbrev pub LFOrEnd : Type 0
LFOrEnd = (list : List ℕ) (b : ℕ) → (b ≡ LF → ⊥) → names (list ++ (b ∷ [])) ≡ names (list ++ (b ∷ LF ∷ []))

-- The names of some lists: no name, an empty one, and nothing after a last LF.
abbrev pub NamesSo : Type 0
NamesSo =
    (names [] ≡ [])
    × (names (bytes_of "\n") ≡ [] ∷ [])
    × (names (bytes_of "a.tasks\nb") ≡ map bytes_of ("a.tasks" ∷ "b" ∷ []))
    × (names (bytes_of "a.tasks\nb\n") ≡ map bytes_of ("a.tasks" ∷ "b" ∷ []))
    × (names (bytes_of "a.tasks\n\nb\n\n") ≡ map bytes_of ("a.tasks" ∷ "" ∷ "b" ∷ "" ∷ []))
