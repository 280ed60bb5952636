-- `layout::start_of` meets its contract: the reserve of server q stands at place q − 1, and decides.
-- Assumes nothing.
use mathlib.Core.Path.{◌∙◌}
use Rattle.layout.proofs.RingStarts.{start_ring, start_whole}
use Rattle.layout_code.proofs.start_of.Goals as goal

pub returns-then-reserves-before : goal.returns-then-reserves-before
returns-then-reserves-before c =
    c.start.ensures ∙ start_ring c.args.slot _ c.args.n c.args.q c.requires.1 c.requires.2 c.if-reserves-before.true

pub returns-else-reserves-before : goal.returns-else-reserves-before
returns-else-reserves-before c =
    start_whole c.args.slot _ c.args.n c.args.q c.requires.1 c.requires.2 c.if-reserves-before.false
