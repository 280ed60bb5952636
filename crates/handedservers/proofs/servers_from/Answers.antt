-- `handedservers::servers_from` meets its contract: each place holds the server of its numbers. Assumes nothing.
use Prim.Native.Nat.{ℕ, ◌+◌, ◌*◌}
use Rattle.std.proofs.Common.{rules}
use Rattle.handed.specs.Handed.{servers_at, per_server}
use Rattle.handed.proofs.HandedLaws.{made_up}
use Rattle.handedservers.specs.Servers.{server_from}
use Rattle.handedservers.proofs.servers_from.Goals as goal

pub returns : goal.returns
returns c = made_up _ (λ (i : ℕ). server_from c.args.numbers.now (servers_at + per_server * i)) _ (λ i y q l k. search rules) c.from_fn.ensures.items
