-- The number and the place of each refusal, and the answers that are done or refused.
-- Document 01, "Refusal numbers and their order" (RULES 6.1); document 02, request 08.
use Rattle.std.specs.Prelude.{ℕ, Result}
use Rattle.refusals.specs.declared.Refusal.{Refusal}
use Rattle.refusals.specs.declared.Refusal.TheVariants.{Line, Order, Count, Twice, Board, Range, Slot, Tight, Horizon, Full, Ask, Room, Alone}

-- what is done, or refused
abbrev pub Outcome : Type 0
Outcome = Result (Unit {0}) Refusal

-- what a writer answers: how many bytes it wrote, or the refusal
abbrev pub Written : Type 0
Written = Result ℕ Refusal

abbrev pub number_of : Refusal → ℕ
number_of (Line k) = 1
number_of (Order k) = 2
number_of (Count k) = 3
number_of (Twice k) = 4
number_of Board = 5
number_of (Range k) = 6
number_of (Slot k) = 7
number_of (Tight k) = 8
number_of Horizon = 9
number_of (Full k) = 10
number_of Ask = 11
number_of Room = 12
number_of (Alone k) = 13

-- the line, the task from 1, the number of processors, or 0
abbrev pub place_of : Refusal → ℕ
place_of (Line k) = k
place_of (Order k) = k
place_of (Count k) = k
place_of (Twice k) = k
place_of Board = 0
place_of (Range k) = k
place_of (Slot k) = k
place_of (Tight k) = k
place_of Horizon = 0
place_of (Full k) = k
place_of Ask = 0
place_of Room = 0
place_of (Alone k) = k
