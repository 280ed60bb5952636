-- `handed::number_at` meets its contract: past the end of a list stands 0. Assumes nothing.
use native.Mathlib.Omega.{arith}
use mathlib.Core.Path.{sym}
use lib.ListN.{get_or-eq_default}
use Rattle.handed.proofs.number_at.Goals as goal

pub returns-else-i-numbers : goal.returns-else-i-numbers
returns-else-i-numbers c = sym (get_or-eq_default c.args.numbers.now 0 (omega arith))
