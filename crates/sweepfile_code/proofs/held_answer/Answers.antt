-- A name that may not be opened has no file; any other has that of its bytes.
-- Assumes nothing.
use Rattle.std.proofs.Common.{arith}
use Rattle.sweepfile.proofs.AnsweredLaws.{opened}
use Rattle.sweepfile_code.proofs.held_answer.Goals as goal

pub returns : goal.returns
returns g c =
    opened c.args.name.now c.args.held c.find.ensures.place (omega arith) (omega arith) (omega arith) c.file_answer.ensures
