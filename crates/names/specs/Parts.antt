-- A list of names that comes in parts, wherever these are cut: which names end in a part, what is begun behind it, and what is held of that.
-- Document 02, Req 03 (RULES 9).
use Rattle.std.specs.Prelude.{ℕ, ◌+◌, ◌≤◌, min, List, [], ◌∷◌, ◌++◌, ◌≡◌, cond, eqb, leb, length, take, drop}
use Rattle.std.specs.List.{position_or_len}
use Rattle.digits.specs.Stored.{stored}
use Rattle.frames.specs.Table.{LF}
use Rattle.names.specs.Names.{longest_name}
use Rattle.names.specs.declared.Cut.{Cut}

-- the names that an LF ends in a part, of which the first was begun before it
unfoldable pub ended : (begun part : List ℕ) → List (List ℕ)
ended begun [] = []
ended begun (b ∷ part) = cond (eqb b LF) (begun ∷ ended [] part) (ended (begun ++ (b ∷ [])) part)

-- what is begun behind it
unfoldable pub begun_by : (begun part : List ℕ) → List ℕ
begun_by begun [] = begun
begun_by begun (b ∷ part) = cond (eqb b LF) (begun_by [] part) (begun_by (begun ++ (b ∷ [])) part)

-- what is begun where the list ends is a name, unless it is empty
abbrev pub last_name : (begun : List ℕ) → List (List ℕ)
last_name [] = []
last_name (b ∷ begun) = (b ∷ begun) ∷ []

-- the names of a list that comes in these parts
unfoldable pub names_in : (begun : List ℕ) (parts : List (List ℕ)) → List (List ℕ)
names_in begun [] = last_name begun
names_in begun (part ∷ parts) = ended begun part ++ names_in (begun_by begun part) parts

-- of what is begun so many bytes are held: all, or one more than a name may have
abbrev pub most_held : ℕ
most_held = longest_name + 1

-- what is begun is held: how long it is, and its bytes, unless it is too long
pub record Holds (begun name : List ℕ) (held : ℕ) : Type 0 where
  pub room : length name ≡ longest_name
  pub count : held ≡ min (length begun) most_held
  pub bytes : length begun ≤ longest_name → take (length begun) name ≡ begun

-- where a byte stands first, or how many bytes there are where it stands nowhere
unfoldable pub index_of : (b : ℕ) → List ℕ → ℕ
index_of b xs = position_or_len (λ (x : ℕ). eqb x b) xs

-- the bytes up to the next LF, or all where there is none
unfoldable pub up_to_lF : List ℕ → List ℕ
up_to_lF part = take (index_of LF part) part

-- with these bytes more: so many are held, and the room for a name has them, unless it is too long
unfoldable pub held_with : (held : ℕ) (more : List ℕ) → ℕ
held_with held more = min (held + length more) most_held

unfoldable pub name_with : (name : List ℕ) (held : ℕ) (more : List ℕ) → List ℕ
name_with name held more = cond (leb (held + length more) longest_name) (stored name held more) name

-- the name at hand, cut at the next LF of a part from a place on: where that is, or the part's end, and how many bytes are held then
unfoldable pub cut_of : (part : List ℕ) (from held : ℕ) → Cut
cut_of part from held = record { end = from + length (up_to_lF (drop from part)); held = held_with held (up_to_lF (drop from part)) }
