-- Each task before task i passes alone.
use Rattle.members.specs.Server.{board_of}
use Rattle.alonerow.proofs.AloneLaws.{Tried}
use Rattle.alonerow_code.proofs.first_alone.Given as goal

abbrev pub invariant-loop-i : goal.invariant-loop-i
invariant-loop-i l = Tried (board_of l.header l.interrupts) l.figures l.n l.i
