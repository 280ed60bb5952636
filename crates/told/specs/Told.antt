-- An answer told in numbers: a status, and the numbers in lent memory.
-- Document 01, the two questions (RULES 4.1 and 4.2), and "Refusal numbers and their order" (RULES 6).
use Rattle.std.specs.Prelude.{ℕ, ◌+◌, ◌*◌, List, cond, length, ltb, Err, Ok}
use Rattle.digits.specs.Stored.{stored}
use Rattle.refusals.specs.Refused.{number_of, place_of}
use Rattle.refusals.specs.declared.Refusal.TheVariants.{Room}
use Rattle.refusals.specs.Refused.{Outcome}

-- 0, or number · 256 + place of a refusal
abbrev pub status_of : Outcome → ℕ
status_of (Ok _) = 0
status_of (Err r) = number_of r * 256 + place_of r

-- a question's own refusal, then 12 where the lent answer has too few places
unfoldable pub told_of : Outcome → (numbers answer : List ℕ) → Outcome
told_of (Ok _) numbers answer = cond (ltb (length answer) (length numbers)) (Err Room) (Ok tt)
told_of (Err r) numbers answer = Err r

-- the numbers at the answer's start, or the answer as before
abbrev pub leaves_numbers : Outcome → (numbers answer : List ℕ) → List ℕ
leaves_numbers (Ok _) numbers answer = stored answer 0 numbers
leaves_numbers (Err r) numbers answer = answer
