use Prim.Native.Nat.{◌+◌, ◌≤◌}
use mathlib.Core.Path.{◌≡◌}
use lib.ListN.{length}
use Rattle.digits.specs.Stored.{stored}
use Rattle.decimaltext.specs.Text.{digits_of}
use Rattle.decimaltext.proofs.put_decimal.Given as goal

abbrev pub invariant-loop-rest : goal.invariant-loop-rest
invariant-loop-rest l =
    (l.left ≡ l.at + length (digits_of l.rest)) × (l.left ≤ length l.out) × (length l.out ≡ length l.initial.out) × (stored l.out l.at (digits_of l.rest) ≡ stored l.initial.out l.at (digits_of l.initial.rest))

abbrev pub decreases-loop-rest : goal.decreases-loop-rest
decreases-loop-rest l = l.rest
