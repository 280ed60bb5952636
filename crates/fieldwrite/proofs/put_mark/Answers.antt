-- `fieldwrite::put_mark` meets its contract: the constant byte string is the mark.
-- Assumes nothing.
use Rattle.fieldwrite.specs.Mark.{mark_of}
use Rattle.fieldwrite.proofs.put_mark.Goals as goal

pub returns : goal.returns
unfolding mark_of
returns c = c.store.ensures
