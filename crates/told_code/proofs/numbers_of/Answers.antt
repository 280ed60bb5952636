-- `told::numbers_of` meets its contract, by the verdict. Assumes nothing.
use mathlib.Core.Path.{sym, ap}
use Rattle.verdict.specs.Numbers.{verdict_numbers}
use Rattle.told_code.proofs.numbers_of.Goals as goal

pub returns-in-Yes : goal.returns-in-Yes
returns-in-Yes c = sym (ap verdict_numbers c.in-Yes.is)

pub returns-in-No : goal.returns-in-No
returns-in-No c = sym (ap verdict_numbers c.in-No.is)
