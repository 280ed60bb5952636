-- Each turn cuts one name off and counts it, until the part ends or no more names are read.
use Rattle.std.proofs.Common.{length, ◌+◌, ◌-◌}
use Rattle.sweeping.proofs.PartLaws.{InPart}
use Rattle.sweeping_code.proofs.sweep_part.Given as goal

abbrev pub invariant-loop-tally : goal.invariant-loop-tally
invariant-loop-tally g l = InPart l.part l.initial.name l.initial.held l.initial.tally l.name l.at l.held l.tally

abbrev pub decreases-loop-tally : goal.decreases-loop-tally
decreases-loop-tally g l = length l.part + 1 - l.at
