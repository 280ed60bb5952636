-- The figures of the first turns are stored.
use Rattle.turns_code.proofs.TurnLaws.{TurnedTo}
use Rattle.turns_code.proofs.in_turn.Given as goal

abbrev pub invariant-loop-j : goal.invariant-loop-j
invariant-loop-j l = TurnedTo l.figures l.turns l.n l.j l.numbers
