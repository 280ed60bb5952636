-- The items copied so far are stored.
use mathlib.Core.Path.{◌≡◌}
use lib.ListN.{take}
use Rattle.digits.specs.Stored.{stored}
use Rattle.store.proofs.store.Given as goal

abbrev pub invariant-loop-i : goal.invariant-loop-i
invariant-loop-i g l = l.out ≡ stored l.initial.out l.at (take l.i l.items)
