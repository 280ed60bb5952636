-- The servers of the turns from j on stand at their tasks' places.
use Rattle.turns_code.proofs.TurnLaws.{AssignedFrom}
use Rattle.turns_code.proofs.in_file_order.Given as goal

abbrev pub invariant-loop-j : goal.invariant-loop-j
invariant-loop-j l = AssignedFrom l.turns l.placement l.n l.j l.servers
