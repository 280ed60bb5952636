-- What is counted of a list of names that was read to its end: its names, each once and under its answer.
-- Document 02, Req 03 (RULES 9). Which bytes were read no contract can say of a file or a terminal: there are some. Of a reader
-- that knows its bytes they are these.
use Rattle.std.specs.Prelude.{ℕ, List, Option, IfSome, ◌≡◌, true, false}
use Rattle.names.specs.Names.{names}
use Rattle.tally.specs.declared.Tally.{Tally}
use Rattle.tally.specs.Tally.{zero_tally}
use Rattle.sweeping.specs.Sweeping.{Counts}
use Rattle.sweeplist.specs.declared.Swept.{Swept}

-- there is a list, and this is the count of its names
pub record CountsList (tally : Tally) : Type 0 where
  pub list : List ℕ
  pub counts : Counts (names list) zero_tally tally

-- a list that could be read is counted
abbrev pub IsCounted : Swept → Type 0
IsCounted swept = swept.whole ≡ true → CountsList swept.tally

-- one whose bytes are known is the list that is counted
abbrev pub IsCountOf : (known : Option (List ℕ)) → Swept → Type 0
IsCountOf known swept = IfSome known (λ (list : List ℕ). swept.whole ≡ true → Counts (names list) zero_tally swept.tally)

-- nothing is counted of one that could not be read
abbrev pub NoCount : Swept → Type 0
NoCount swept = swept.whole ≡ false → swept.tally ≡ zero_tally
