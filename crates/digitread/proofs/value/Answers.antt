-- `digitread::value` meets its contract: the value of a legal digit by its two cases.
-- Assumes nothing.
use mathlib.Core.Path.{sym}
use native.Mathlib.Omega.{arith}
use Rattle.digits.proofs.Digits.{legal_low, value_figure, value_letter}
use Rattle.digitread.proofs.value.Goals as goal

pub overflow_sub-result : goal.overflow_sub-result
overflow_sub-result c = omega (arith, legal_low c.args.b c.requires)

pub returns-then-b-le57 : goal.returns-then-b-le57
returns-then-b-le57 c = sym (value_figure _ c.if-b-le57.true)

pub returns-else-b-le57 : goal.returns-else-b-le57
returns-else-b-le57 c = sym (value_letter _ c.if-b-le57.false)
