-- The places passed hold the reserves of the first servers.
use Rattle.std.proofs.Common.{take}
use Rattle.loads.specs.Figures.{figures_to}
use Rattle.places.proofs.PaddedLaws.{Filled}
use Rattle.members.specs.Server.{board_of}
use Rattle.sizing.specs.Reserve.{reserve_in}
use Rattle.sizing_code.proofs.size.Given as goal

abbrev pub invariant-loop-at : goal.invariant-loop-at
invariant-loop-at l =
    Filled (reserve_in (board_of l.header l.interrupts) (figures_to l.figures l.n) (take l.n l.placement)) l.at l.reserve
