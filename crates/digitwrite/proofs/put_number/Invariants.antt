use Prim.Native.Nat.{◌-◌, ◌≤◌, ◌+◌}
use mathlib.Core.Path.{◌≡◌}
use lib.ListN.{length}
use Rattle.digits.specs.Number.{hex}
use Rattle.digits.specs.Stored.{stored}
use Rattle.digitwrite.proofs.put_number.Given as goal

abbrev pub invariant-loop-j : goal.invariant-loop-j
invariant-loop-j l =
    (l.at ≤ l.j) × (l.j ≤ l.at + l.width) × (length l.out ≡ length l.initial.out)
    × (stored l.out l.at (hex (l.j - l.at) l.rest) ≡ stored l.initial.out l.at (hex l.width l.value))
