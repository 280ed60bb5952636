-- `who::first` meets its contract: the first reserve is what runs at tick 0.
-- Assumes nothing.
use Rattle.ring.proofs.WhoLaws.{first_told}
use Rattle.ring_who.proofs.first.Goals as goal

pub returns : goal.returns
returns c =
    first_told c.requires.0 c.requires.1 c.who.ensures
