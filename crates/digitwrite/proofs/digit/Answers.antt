-- `digitwrite::digit` meets its contract: the digit of a value by its two cases.
-- Assumes nothing.
use mathlib.Core.Path.{sym}
use Rattle.digits.proofs.Digits.{digit_figure, digit_letter}
use Rattle.digitwrite.proofs.digit.Goals as goal

pub returns-then-v-lt10 : goal.returns-then-v-lt10
returns-then-v-lt10 c = sym (digit_figure _ c.if-v-lt10.true)

pub returns-else-v-lt10 : goal.returns-else-v-lt10
returns-else-v-lt10 c = sym (digit_letter _ c.if-v-lt10.false)
