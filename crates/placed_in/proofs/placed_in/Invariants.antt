-- The first tasks are placed, the servers are counted, and what the next step asks of them is kept.
use Rattle.loads.specs.Figures.{figures_to}
use Rattle.members.specs.Server.{board_of}
use Rattle.servers.proofs.SoFarLaws.{SoFar}
use Rattle.placed_in.proofs.placed_in.Given as goal

abbrev pub invariant-loop-i : goal.invariant-loop-i
invariant-loop-i l =
    SoFar l.fit (board_of l.header l.interrupts) l.horizon (figures_to l.figures l.i) l.i l.placement l.kept l.count
