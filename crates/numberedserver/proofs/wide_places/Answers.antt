-- `numberedserver::wide_places` meets its contract: each place holds the server's. Assumes nothing.
use Prim.Native.Nat.{ℕ}
use lib.ListN.{get_or}
use Rattle.std.proofs.Common.{rules}
use Rattle.handed.proofs.HandedLaws.{made_up}
use Rattle.numberedserver.specs.Server.{place_numbers}
use Rattle.numberedserver.proofs.wide_places.Goals as goal

pub returns : goal.returns
unfolding place_numbers
returns c = made_up _ (λ (i : ℕ). get_or c.args.server.places i 0) _ (λ i y q l k. search rules) c.from_fn.ensures.items
