-- The start of a reserve below the slot, else the mark.
-- Assumes nothing.
use Prim.Native.Nat.{◌≤◌, ◌<◌}
use native.Mathlib.Omega.{arith}
use borrow.Author.Tests.{lt-ltb, le-ltb}
use Rattle.server_values.proofs.start_or_mark.Goals as goal

pub returns-then-reserve-slot : goal.returns-then-reserve-slot
returns-then-reserve-slot c =
    let a = c.args in
    let below : a.reserve < a.slot = omega (arith, c.if-reserve-slot.true) in
    rw (lt-ltb a.reserve a.slot below)

pub returns : goal.returns
returns c =
    let a = c.args in
    let whole : a.slot ≤ a.reserve = omega (arith, c.if-reserve-slot.false) in
    rw (le-ltb a.reserve a.slot whole)
