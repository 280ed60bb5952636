-- The servers passed are alike, so the rest decides.
use Rattle.std.proofs.Common.{◌≡◌, take, drop}
use Rattle.planagree.specs.Agrees.{alike, same_used}
use Rattle.planagree_code.proofs.same_servers.Given as goal

abbrev pub invariant-loop-i : goal.invariant-loop-i
invariant-loop-i l =
    alike same_used (take l.n l.a.server) (take l.n l.b.server) ≡ alike same_used (drop l.i (take l.n l.a.server)) (drop l.i (take l.n l.b.server))
