-- `framelines::lines_length` meets its contract: the bytes of each line, by the table's length, as often as there are lines.
-- Assumes nothing.
use Prim.Native.Nat.{ℕ, ◌+◌, ◌*◌, ◌≤◌}
use mathlib.Core.Path.{ap}
use native.Mathlib.Nat.{mul-le-mul, lt_of_le_of_lt}
use native.Mathlib.Omega.{arith}
use lib.Dec.{lit<}
use Rattle.frames.specs.Table.{most_digits}
use Rattle.frames.proofs.Tables.{length_most}
use Rattle.framelines_code.proofs.lines_length.Goals as goal

pub overflow_add-line : goal.overflow_add-line
overflow_add-line c = omega (arith, c.length-line.ensures, length_most c.args.frame)

pub overflow_mul-result : goal.overflow_mul-result
overflow_mul-result c =
    let few : c.args.n ≤ 65535 = omega arith in
    record { fits = lt_of_le_of_lt (mul-le-mul {n₂ = 65535} {m₂ = most_digits * 2} few (omega (arith, c.length-line.ensures, length_most c.args.frame))) (lit< tt) }

pub returns : goal.returns
returns c = ap (λ (k : ℕ). c.args.n * (k + 1)) c.length-line.ensures
