-- `decimals::append` meets its contract, by the tests of the byte. Assumes nothing.
use mathlib.Core.Path.{sym}
use mathlib.Core.List.{[]}
use native.Mathlib.Omega.{arith}
use Rattle.decimals.proofs.DecimalLaws.{below_digits, above_digits, digit_fits, digit_large}
use Rattle.decimals.proofs.append.Goals as goal

pub returns-then-byte-lt48 : goal.returns-then-byte-lt48
returns-then-byte-lt48 c = sym (below_digits _ _ [] (omega arith))

pub returns-then-above : goal.returns-then-above
returns-then-above c = sym (above_digits _ _ [] (omega arith))

pub returns-then-digit-high : goal.returns-then-digit-high
returns-then-digit-high c = sym (digit_large _ _ [] (omega arith) (omega arith) (omega arith))

pub returns : goal.returns
returns c = sym (digit_fits _ _ (omega arith) (omega arith) (omega arith))
