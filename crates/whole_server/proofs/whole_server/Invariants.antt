-- The server asked for is the `more`-th from the i-th reserve on.
use Rattle.reserves.proofs.WholeLaws.{Walked}
use Rattle.whole_server.proofs.whole_server.Given as goal

abbrev pub invariant-loop-i : goal.invariant-loop-i
invariant-loop-i l = Walked l.slot l.reserves l.n l.k l.more l.i
