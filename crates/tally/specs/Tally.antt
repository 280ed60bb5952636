-- The count of a sweep's names by what became of each.
-- Document 02, Req 03, "Sweep report".
use Rattle.std.specs.Prelude.{ℕ, ◌+◌, ◌≡◌, List, [], ◌∷◌, length, get_or, set, replicate, Err, None, Ok, Option, Some}
use Rattle.refusals.specs.Refused.{number_of, Outcome}
use Rattle.tally.specs.declared.Tally.{Tally}

-- the refusal numbers, 0 to 13
abbrev pub numbers : ℕ
numbers = 14

-- the most names that are read of a list
abbrev pub most_names : ℕ
most_names = 65535

-- the count before the first name
abbrev pub zero_tally : Tally
zero_tally = record { names = 0; accepted = 0; refused = replicate numbers 0 }

-- one name more, among the accepted
abbrev pub among_accepted : Tally → Tally
among_accepted t = record { names = t.names + 1; accepted = t.accepted + 1; refused = t.refused }

-- one name more, under a refusal number
abbrev pub under : Tally → (number : ℕ) → Tally
under t number =
    record {
      names = t.names + 1;
      accepted = t.accepted;
      refused = set t.refused number (get_or t.refused number 0 + 1);
    }

-- one name more, counted under its answer: one whose file was not opened is under number 0
abbrev pub counted_of : Tally → Option Outcome → Tally
counted_of t None = under t 0
counted_of t (Some (Ok _)) = among_accepted t
counted_of t (Some (Err r)) = under t (number_of r)

-- the names of these answers counted, one after the other
unfoldable pub counted_all : Tally → List (Option Outcome) → Tally
counted_all t [] = t
counted_all t (a ∷ rest) = counted_all (counted_of t a) rest

-- numbers added up
unfoldable pub sum : List ℕ → ℕ
sum [] = 0
sum (n ∷ ns) = n + sum ns

-- a count that is right: each name is among the accepted or under one number, and there is a place for each number
pub record Adds (t : Tally) : Type 0 where
  pub room : length t.refused ≡ numbers
  pub adds : t.names ≡ t.accepted + sum t.refused
