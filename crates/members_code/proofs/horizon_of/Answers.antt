-- `horizon_of` meets its contract: the periods of the loads, then those of the interrupts. Assumes nothing.
use mathlib.Core.Path.{sym, ◌∙◌}
use Rattle.members.proofs.HorizonLaws.{loads_apart, bounds_apart, loads_past, loads_within, bounds_passed}
use Rattle.members_code.proofs.horizon_of.Goals as goal

pub multiple_of-requires : goal.multiple_of-requires
multiple_of-requires c = loads_apart c.requires

pub returns-in_err-own : goal.returns-in_err-own
returns-in_err-own c = c.from_residual.ensures ∙ loads_past c.requires c.args.limit (sym c.multiple_of.ensures ∙ c.in_err-own.was)

pub multiple_of-requires-2 : goal.multiple_of-requires-2
multiple_of-requires-2 c = bounds_apart c.requires (loads_within c.requires c.args.limit (sym c.multiple_of.ensures ∙ c.in_ok-own.was))

pub returns : goal.returns
returns c = c.multiple_of-2.ensures ∙ bounds_passed c.requires c.args.limit (loads_within c.requires c.args.limit (sym c.multiple_of.ensures ∙ c.in_ok-own.was))
