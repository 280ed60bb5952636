-- One read more keeps what the loop has read so far.
use Rattle.std.proofs.Common.{rules}
use Rattle.shell.proofs.InputLaws.{read_more}
use Rattle.shell.proofs.input.read_input.Goals as goal

pub loop-done-preserved : goal.loop-done-preserved
loop-done-preserved g c = (
  search rules,
  search rules,
  read_more _ _ _ _ _ _ _ _ c.loop-done.invariant.0 (search rules) c.loop-done.invariant.2 c.in_ok-more.ensures.bytes.0,
)
