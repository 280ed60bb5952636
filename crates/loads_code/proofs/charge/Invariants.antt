-- The loads of the places passed are stored, the rest is as it was.
use Rattle.std.proofs.Common.{◌≡◌}
use Rattle.digits.specs.Stored.{stored}
use Rattle.loads.specs.Charge.{numbers_of}
use Rattle.loads.proofs.ChargeLaws.{charged_to}
use Rattle.loads_code.proofs.charge.Given as goal

abbrev pub invariant-loop-i : goal.invariant-loop-i
invariant-loop-i l = l.loads ≡ stored l.initial.loads 0 (numbers_of (charged_to l.header l.cache l.figures l.places l.i))
