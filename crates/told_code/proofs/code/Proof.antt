-- `told::code` meets its contract: a refusal's number is at most 13, and its place a byte. Assumes nothing.
use Prim.Native.Nat.{◌≤◌, ◌<◌}
use native.Mathlib.Omega.{arith}
use Rattle.refusals.proofs.NumberLaws.{number_row}
use borrow.Author.Rules.{rules}
use Rattle.told_code.proofs.code.Statement.{statement}
use Rattle.told_code.proofs.code.Tie as tie

-- a number of at most 13 and a place of one byte
small : (c : tie.After-place-at) → (c.number-row.result ≤ 13) × (c.place-at.result < 256)
small c = (omega (arith, (number_row c.args.refusal).1, c.number-row.ensures), omega (arith, c.place-at.type_inv))

overflow_mul-result : tie.Need-overflow_mul-result
overflow_mul-result c = omega (arith, small c)

overflow_add-result : tie.Need-overflow_add-result
overflow_add-result c = omega (arith, small c)

pub code_spec : {M : Type 1} → statement M
code_spec =
    tie.close
    (tie.spec
    (λ c κs. search rules)
    (λ c κs. search rules)
    (λ c. search rules)
    overflow_mul-result
    overflow_add-result
    (λ c. search rules))
