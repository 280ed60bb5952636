-- `handedservers::server_from` meets its contract: each place holds the byte of its number. Assumes nothing.
use Prim.Native.Nat.{ℕ, ◌+◌}
use Rattle.std.proofs.Common.{rules}
use Rattle.handed.specs.Handed.{byte_at}
use Rattle.places.proofs.MadeLaws.{made_to}
use Rattle.handedservers.specs.Servers.{server_from}
use Rattle.handedservers.proofs.server_from.Goals as goal

pub returns : goal.returns
unfolding server_from
returns c =
    rw (
      made_to _ (λ (k : ℕ). byte_at c.args.numbers.now (c.args.at + k)) _ (λ i y q l k. search rules) c.from_fn.ensures.items,
      c.number_at.ensures,
      c.number_at-2.ensures,
      c.number_at-3.ensures,
      c.number_at-4.ensures,
    )
