-- `handedplan::first_from` meets its contract: each place holds the first reserve of its numbers. Assumes nothing.
use Prim.Native.Nat.{ℕ, ◌+◌, ◌*◌}
use Rattle.std.proofs.Common.{rules}
use Rattle.handed.specs.Handed.{first_at}
use Rattle.handed.proofs.HandedLaws.{made_up}
use Rattle.handedplan.specs.Plan.{stand_from}
use Rattle.handedplan.proofs.first_from.Goals as goal

pub returns : goal.returns
returns c = made_up _ (λ (i : ℕ). stand_from c.args.numbers.now (first_at + 2 * i)) _ (λ i y q l k. search rules) c.from_fn.ensures.items
