-- The places passed hold the first reserves of the processors so far.
use Rattle.std.proofs.Common.{take}
use Rattle.ring.specs.Who.{first_reserve}
use Rattle.places.proofs.PaddedLaws.{FilledWith}
use Rattle.plan.specs.Plan.{zero_stand}
use Rattle.layout_code.proofs.first_reserves.Given as goal

abbrev pub invariant-loop-i : goal.invariant-loop-i
invariant-loop-i l = FilledWith zero_stand (first_reserve l.slot (take l.n l.reserves)) l.i l.first
