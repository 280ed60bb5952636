use Rattle.framelines.proofs.LinesLaws.{Put}
use Rattle.framelines_code.proofs.put_lines.Given as goal

abbrev pub invariant-loop : goal.invariant-loop
invariant-loop l = Put l.fn.frame l.initial.out l.at l.values l.n l.out l.next l.from l.counter
