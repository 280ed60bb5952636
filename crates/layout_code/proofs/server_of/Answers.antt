-- `layout::server_of` meets its contract: the places found are stored at the front of zeros, the reserve and the cache cost stand at place q − 1.
-- Assumes nothing.
use mathlib.Core.Path.{sym}
use lib.ListN.{take}
use Rattle.layout.proofs.RingStarts.{reserve_place}
use Rattle.layout.proofs.RecordLaws.{server_made}
use Rattle.layout_code.proofs.server_of.Goals as goal

pub returns : goal.returns
returns c =
    let found = c.places_of-count.ensures in
    server_made c.args.slot (take c.args.n c.args.caches.now) _ (take c.args.n c.args.reserves.now) c.args.q found.value found.places_after
    (sym (reserve_place c.args.reserves.now c.args.n c.args.q c.requires.slotted_first.1 c.requires.slotted_first.2)) c.start_of.ensures
    (sym (reserve_place c.args.caches.now c.args.n c.args.q c.requires.slotted_first.1 c.requires.slotted_first.2))
