-- What became of a name: it is not opened, or its file's bytes are read and planned.
-- Document 02, Req 03 (RULES 9). Which bytes a file has no contract can say: there are some.
use Rattle.refusals.specs.Refused.{Outcome}
use Rattle.std.specs.Prelude.{ℕ, List, [], ◌∷◌, ◌⊎◌, ◌≡◌, Bool, false, ◌&&◌, eqb, leb, ltb, length, None, Option, Some}
use Rattle.names.specs.Names.{longest_name}
use Rattle.names.specs.Parts.{Holds, index_of}
use Rattle.taskplan.specs.File.{filed_of}

-- a name that may be opened: not empty, not over 255 bytes, and without a NUL
unfoldable pub opens : (name : List ℕ) → Bool
opens name = ltb 0 (length name) && (leb (length name) longest_name && eqb (index_of 0 name) (length name))

-- the answer of some file: it can't be opened or read, or it has bytes, and the outcome of reading and planning these
abbrev pub OfFile : Option Outcome → Type 0
OfFile a = (a ≡ None) ⊎ ((text : List ℕ) × (a ≡ Some (filed_of text).outcome))

-- the answer of a name
pub record Answered (name : List ℕ) (a : Option Outcome) : Type 0 where
  pub unopened : opens name ≡ false → a ≡ None
  pub file : OfFile a

-- the answer of any name of which so many bytes are held
abbrev pub AnsweredHeld : (room : List ℕ) (held : ℕ) → Option Outcome → Type 0
AnsweredHeld room held a = (name : List ℕ) → Holds name room held → Answered name a

-- each of these names has its answer, in order
abbrev pub EachAnswered : (names : List (List ℕ)) (answers : List (Option Outcome)) → Type 0
EachAnswered [] [] = Unit
EachAnswered [] (a ∷ answers) = ⊥
EachAnswered (name ∷ names) [] = ⊥
EachAnswered (name ∷ names) (a ∷ answers) = Answered name a × EachAnswered names answers
