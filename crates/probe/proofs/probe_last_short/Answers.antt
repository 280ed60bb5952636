-- `probe_last_short` meets its contract: it hands on what the search finds. Assumes nothing.
use Rattle.probe.proofs.probe_last_short.Goals as goal

pub returns : goal.returns
returns c = c.last_short.ensures
