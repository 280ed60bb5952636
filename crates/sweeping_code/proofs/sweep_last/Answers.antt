-- Nothing is counted where no more names are read or nothing is begun, else the name at hand.
-- Assumes nothing.
use Rattle.std.proofs.Common.{arith}
use Rattle.sweeping.proofs.LastLaws.{last_full, last_none, last_counted}
use Rattle.sweeping_code.proofs.sweep_last.Goals as goal

pub returns-then-no_more : goal.returns-then-no_more
returns-then-no_more g c = last_full (omega arith)

pub returns-then-none_begun : goal.returns-then-none_begun
returns-then-none_begun g c = last_none (omega arith) (omega arith)

pub returns : goal.returns
returns g c = last_counted (omega arith) (omega arith) c.held_answer-answer.ensures c.counted.ensures
