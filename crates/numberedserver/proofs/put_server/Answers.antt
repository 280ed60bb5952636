-- `numberedserver::put_server` meets its contract: count, places and the rest are stored one behind the other. Assumes nothing.
use Rattle.numberedserver.proofs.ServerLaws.{server_stored}
use Rattle.numberedserver.proofs.put_server.Goals as goal

pub returns : goal.returns
returns c =
    server_stored c.args.numbers.now c.args.at c.args.server c.wide_places-places.ensures c.requires c.store.ensures c.store-2.ensures c.store-3.ensures
