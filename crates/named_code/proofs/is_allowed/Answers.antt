-- `is_allowed` meets its contract: the tests are the definition's.
-- Assumes nothing.
use Prim.Native.Nat.{◌+◌, ◌≤◌, ◌<◌}
use native.Mathlib.Omega.{arith}
use borrow.Author.Tests.{le-leb, lt-leb}
use Rattle.named.specs.Named.{allowed}
use Rattle.named_code.proofs.is_allowed.Goals as goal

pub returns-then-reserve-loss : goal.returns-then-reserve-loss
unfolding allowed
returns-then-reserve-loss c = let early : c.args.reserve < c.args.loss + 1 = omega (arith, c.if-reserve-loss.true) in rw (lt-leb _ _ early)

pub returns-then-reserve-slot : goal.returns-then-reserve-slot
unfolding allowed
returns-then-reserve-slot c = let late : c.args.loss + 1 ≤ c.args.reserve = omega (arith, c.if-reserve-loss.false) in let parts : c.args.reserve + 1 ≤ c.args.slot = omega (arith, c.if-reserve-slot.true) in rw (le-leb _ _ late, le-leb _ _ parts)

pub returns : goal.returns
unfolding allowed
returns c = let late : c.args.loss + 1 ≤ c.args.reserve = omega (arith, c.if-reserve-loss.false) in let past : c.args.slot < c.args.reserve + 1 = omega (arith, c.if-reserve-slot.false) in rw (le-leb _ _ late, lt-leb _ _ past)
