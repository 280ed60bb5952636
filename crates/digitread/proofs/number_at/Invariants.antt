use lib.ListN.{take}
use mathlib.Core.Path.{◌≡◌}
use Rattle.digits.specs.Number.{number}
use Rattle.digitread.proofs.number_at.Given as goal

abbrev pub invariant-loop-b : goal.invariant-loop-b
invariant-loop-b l = l.sum ≡ number (take l.b-index l.b-items)
