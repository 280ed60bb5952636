use Prim.Native.Nat.{◌+◌}
use mathlib.Core.Path.{◌≡◌}
use lib.ListN.{length, take}
use Rattle.digits.specs.Stored.{stored}
use Rattle.frames.specs.Table.{sum}
use Rattle.framewrite.specs.Line.{fields, row_widths}
use Rattle.put_fields.proofs.put_fields.Given as goal

abbrev pub invariant-loop-width : goal.invariant-loop-width
invariant-loop-width l =
    (l.start ≡ l.at + sum (take (length l.yielded) (row_widths l.fn.row)))
    × (length l.out ≡ length l.initial.out)
    × (l.out ≡ stored l.initial.out l.at (fields (take (length l.yielded) (row_widths l.fn.row)) l.values))
