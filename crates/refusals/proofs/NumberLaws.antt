-- Laws of the numbers of refusals.
-- Assumes nothing.
use Prim.Native.Nat.{◌≤◌}
use lib.Dec.{lit≤}
use Rattle.refusals.specs.declared.Refusal.{Refusal}
use Rattle.refusals.specs.declared.Refusal.TheVariants.{Line, Order, Count, Twice, Board, Range, Slot, Tight, Horizon, Full, Ask, Room, Alone}
use Rattle.refusals.specs.Refused.{number_of}

-- the number of a refusal is 1 to 13
pub number_row : (r : Refusal) → (1 ≤ number_of r) × (number_of r ≤ 13)
number_row (Line k) = (lit≤ tt, lit≤ tt)
number_row (Order k) = (lit≤ tt, lit≤ tt)
number_row (Count k) = (lit≤ tt, lit≤ tt)
number_row (Twice k) = (lit≤ tt, lit≤ tt)
number_row Board = (lit≤ tt, lit≤ tt)
number_row (Range k) = (lit≤ tt, lit≤ tt)
number_row (Slot k) = (lit≤ tt, lit≤ tt)
number_row (Tight k) = (lit≤ tt, lit≤ tt)
number_row Horizon = (lit≤ tt, lit≤ tt)
number_row (Full k) = (lit≤ tt, lit≤ tt)
number_row Ask = (lit≤ tt, lit≤ tt)
number_row Room = (lit≤ tt, lit≤ tt)
number_row (Alone k) = (lit≤ tt, lit≤ tt)
