-- What was found is what the fit names of the servers above lo, up to those that were passed, and its room is held.
use Rattle.std.proofs.Common.{◌-◌, ◌≤◌, max, take}
use Rattle.places.specs.Places.{chosen}
use Rattle.loads.specs.Figures.{figures_to}
use Rattle.members.specs.Server.{board_of}
use Rattle.shares.specs.Totals.{total_in}
use Rattle.joining.proofs.CandidateLaws.{candidates}
use Rattle.joining.proofs.WalkLaws.{Walked}
use Rattle.joining_code.proofs.server_for.Given as goal

abbrev pub invariant-loop-at : goal.invariant-loop-at
invariant-loop-at l =
    Walked l.fit (λ q. l.horizon - total_in l.header l.horizon (chosen (figures_to l.figures l.i) (take l.i l.placement) q))
    (candidates (board_of l.header l.interrupts) l.figures l.placement l.i) l.lo l.at l.found l.held
    × (l.at ≤ max l.lo l.count)
