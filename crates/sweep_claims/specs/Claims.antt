-- What is promised of a sweep, each claim as a type. The proofs stand under the same names in proofs/Claims.antt.
-- Document 02, Req 03 (RULES 9).
use Rattle.std.specs.Prelude.{ℕ, ◌+◌, ◌^◌, ◌≤◌, ◌<◌, List, [], ◌∷◌, map, ◌⊎◌, ◌≡◌, Bool, true, false, cond, eqb, length, get_or, take, Err, None, Ok, Option, Some}
use Rattle.quoted.specs.Quoted.{bytes_of}
use Rattle.refusals.specs.declared.Refusal.{Refusal}
use Rattle.refusals.specs.Refused.{number_of, Outcome}
use Rattle.taskplan.specs.File.{filed_of}
use Rattle.names.specs.Names.{names}
use Rattle.tally.specs.declared.Tally.{Tally}
use Rattle.tally.specs.Tally.{most_names, zero_tally, sum}
use Rattle.tallytext.specs.Text.{numbers_told, tally_text}
use Rattle.sweepfile.specs.Answered.{opens, EachAnswered}
use Rattle.sweeping.specs.Sweeping.{Counts}

-- the names that are read of a list; later ones are not
abbrev pub names_read : (list : List ℕ) → List (List ℕ)
names_read list = take most_names (names list)

-- t is the count of a list's names
abbrev pub CountOf : (list : List ℕ) → Tally → Type 0
CountOf list t = Counts (names list) zero_tally t

-- ---- each name once, under its answer

-- how many of some answers pass a test
unfoldable pub how_many : (Option Outcome → Bool) → List (Option Outcome) → ℕ
how_many test [] = 0
how_many test (a ∷ answers) = cond (test a) 1 0 + how_many test answers

-- an answer is an accepted file's
abbrev pub accepts : Option Outcome → Bool
accepts None = false
accepts (Some (Ok _)) = true
accepts (Some (Err r)) = false

-- an answer meets a number: 0 where no file was opened and read, else the number of its refusal
abbrev pub meets : ℕ → Option Outcome → Bool
meets n None = eqb n 0
meets n (Some (Ok _)) = false
meets n (Some (Err r)) = eqb n (number_of r)

-- Each name that is read has one answer, and is counted by it: among the accepted, or under the number that it meets.
pub record CountedOnce (list : List ℕ) (t : Tally) : Type 0 where
  pub answers : List (Option Outcome)
  pub each : EachAnswered (names_read list) answers
  pub accepted : t.accepted ≡ how_many accepts answers
  pub refused : (n : ℕ) → get_or t.refused n 0 ≡ how_many (meets n) answers

abbrev pub EachCountedOnce : Type 0
EachCountedOnce = (list : List ℕ) (t : Tally) → CountOf list t → CountedOnce list t

-- ---- the sum

-- Accepted and refused, as the report's lines tell them, add up to the names read, at most 65,535.
pub record CountsAddUp (list : List ℕ) (t : Tally) : Type 0 where
  pub adds : t.accepted + sum (map (λ (n : ℕ). get_or t.refused n 0) numbers_told) ≡ length (names_read list)
  pub few : length (names_read list) ≤ 65535

abbrev pub AddsUp : Type 0
AddsUp = (list : List ℕ) (t : Tally) → CountOf list t → CountsAddUp list t

-- A list of at most 65,535 names is read whole.
abbrev pub AllRead : Type 0
AllRead = (list : List ℕ) → length (names list) ≤ 65535 → names_read list ≡ names list

-- ---- the numbers

-- A file is refused with a number from 1 to 10, or 13: 11 and 12 are for callers.
abbrev pub FileNumbers : Type 0
FileNumbers = (text : List ℕ) (r : Refusal) → (filed_of text).outcome ≡ Err r → (1 ≤ number_of r) × ((number_of r ≤ 10) ⊎ (number_of r ≡ 13))

-- A name is not opened where it is empty, over 255 bytes, or has a NUL; and only then.
pub record NotOpened : Type 0 where
  pub empty : opens [] ≡ false
  pub long : (name : List ℕ) → 255 < length name → opens name ≡ false
  pub nul : (name : List ℕ) (i : ℕ) → i < length name → get_or name i 1 ≡ 0 → opens name ≡ false
  pub others : (name : List ℕ) → 1 ≤ length name → length name ≤ 255 → ((i : ℕ) → i < length name → get_or name i 1 ≡ 0 → ⊥) → opens name ≡ true

-- ---- the report

-- No digit of a report is cut off: every count fits its field of eight digits.
pub record CountsFit (t : Tally) : Type 0 where
  pub accepted : t.accepted < 16 ^ 8
  pub refused : (n : ℕ) → get_or t.refused n 0 < 16 ^ 8

abbrev pub ReportWhole : Type 0
ReportWhole = (list : List ℕ) (t : Tally) → CountOf list t → CountsFit t

-- The report of eleven names, three of them accepted.
abbrev pub ReportSo : Type 0
ReportSo =
    tally_text (record { names = 11; accepted = 3; refused = 2 ∷ 1 ∷ 0 ∷ 0 ∷ 0 ∷ 0 ∷ 0 ∷ 0 ∷ 2 ∷ 1 ∷ 1 ∷ 0 ∷ 0 ∷ 1 ∷ [] }) ≡
    bytes_of "4000000003\n410000000002\n410100000001\n410200000000\n410300000000\n410400000000\n410500000000\n410600000000\n410700000000\n410800000002\n410900000001\n410A00000001\n410D00000001\n"
