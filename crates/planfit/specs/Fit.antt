-- A text into a lent buffer: its length where it fits, ROOM where it does not, ASK first for a plan that is not made of its set.
-- Document 01, rows 11 and 12 of the refusals (RULES 6.5) and "An accepted write changes only the text's bytes at the buffer's start".
use Rattle.std.specs.Prelude.{ℕ, List, Bool, cond, ◌≡◌, length, ltb, Err, Ok}
use Rattle.refusals.specs.declared.Refusal.TheVariants.{Ask, Room}
use Rattle.refusals.specs.Refused.{Written}
use Rattle.refusals.specs.Leaves.{leaves}

-- a text of this length into this buffer
unfoldable pub fitted : (buffer text : List ℕ) → Written
fitted buffer text = cond (ltb (length buffer) (length text)) (Err Room) (Ok (length text))

-- a text of a plan that is handed in with its set: ASK unless the planner makes it of the set, then ROOM, else the length of the exact text
unfoldable pub write_of : (made : Bool) (buffer text : List ℕ) → Written
write_of made buffer text = cond made (fitted buffer text) (Err Ask)

-- an answer, and what the buffer holds after it
pub record Fits (buffer text : List ℕ) (answer : Written) (left : List ℕ) : Type 0 where
  pub answered : answer ≡ fitted buffer text
  pub holds : left ≡ leaves (fitted buffer text) buffer text
