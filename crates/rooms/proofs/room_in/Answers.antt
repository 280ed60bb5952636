-- `room_in` meets its contract. Assumes nothing.
use native.Mathlib.Omega.{arith}
use Rattle.rooms.proofs.room_in.Goals as goal

pub total-asks-requires : goal.total-asks-requires
total-asks-requires c = (omega (arith, c.requires.0), omega (arith, c.requires.1), omega (arith, c.requires.2))

pub returns-then-horizon-asks : goal.returns-then-horizon-asks
returns-then-horizon-asks c = omega (arith, c.total-asks.ensures, c.if-horizon-asks.true)

pub returns : goal.returns
returns c = omega (arith, c.total-asks.ensures, c.if-horizon-asks.false)
