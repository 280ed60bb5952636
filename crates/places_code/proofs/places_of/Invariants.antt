-- The places of the server's tasks among the first i are stored.
use Rattle.places_code.proofs.ListedLaws.{Listed}
use Rattle.places_code.proofs.places_of.Given as goal

abbrev pub invariant-loop-i : goal.invariant-loop-i
invariant-loop-i l = Listed l.placement l.q l.fn.places l.places l.count l.i
