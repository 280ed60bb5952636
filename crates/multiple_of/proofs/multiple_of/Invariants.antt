-- m is the least common multiple of the numbers passed, and at most the limit.
use Prim.Native.Nat.{◌≤◌}
use mathlib.Core.Path.{◌≡◌}
use Rattle.wholes.specs.Multiple.{least_multiple_of}
use Rattle.members.specs.Server.{spaced}
use Rattle.multiple_of.proofs.multiple_of.Given as goal

abbrev pub invariant-loop-i : goal.invariant-loop-i
invariant-loop-i l = (l.m ≡ least_multiple_of l.first (spaced l.numbers l.from l.stride l.i)) × (l.m ≤ l.limit)
