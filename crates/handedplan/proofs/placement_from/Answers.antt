-- `handedplan::placement_from` meets its contract: each place holds its number. Assumes nothing.
use Rattle.std.proofs.Common.{rules}
use Rattle.places.proofs.MadeLaws.{made_to}
use Rattle.handedplan.proofs.placement_from.Goals as goal

pub returns : goal.returns
returns c = made_to _ _ _ (λ i y q l k. search rules) c.from_fn.ensures.items
