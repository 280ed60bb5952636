-- `optional_overflows` meets its contract: the value of an optional line is tested, and where there is no such line nothing is.
-- Assumes nothing.
use native.Mathlib.Omega.{arith}
use mathlib.Core.Path.{sym, ◌∙◌, ap}
use Rattle.frames.specs.Table.{widths_of}
use Rattle.taskask.specs.Ask.{optional_overflows}
use Rattle.overflowing.proofs.optional_overflows.Goals as goal

pub returns-in_default : goal.returns-in_default
unfolding optional_overflows
returns-in_default c = sym (ap (optional_overflows _) c.in_default.is)

pub overflows-requires : goal.overflows-requires
unfolding widths_of
overflows-requires c = omega (arith, c.requires)

pub returns : goal.returns
unfolding optional_overflows
returns c = c.overflows.ensures ∙ sym (ap (optional_overflows _) c.in-Some.is)
