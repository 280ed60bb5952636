-- `total` meets its contract: the numbers are small enough for their product and sum.
use Prim.Native.Nat.{ℕ, ◌*◌, ◌^◌, ◌≤◌, ◌<◌}
use mathlib.Core.Path.{refl}
use native.Mathlib.Nat.{mul-le-mul}
use native.Mathlib.Omega.{arith}
use Rattle.shares_code.proofs.total.Statement.{statement}
use Rattle.shares_code.proofs.total.Tie as tie

-- the cache cost at each job
product : (cache jobs : ℕ) → cache < 2 ^ 16 → jobs < 2 ^ 32 → cache * jobs ≤ 2 ^ 48
product cache jobs c j =
    let low : cache ≤ 2 ^ 16 = omega arith in
    let few : jobs ≤ 2 ^ 32 = omega arith in
    let most : cache * jobs ≤ 2 ^ 16 * 2 ^ 32 = mul-le-mul low few in
    omega arith

paid : (s : tie.Start) → s.args.cache * s.args.jobs ≤ 2 ^ 48
paid s = product s.args.cache s.args.jobs s.requires.2 s.requires.1

overflow_mul-result : tie.Need-overflow_mul-result
overflow_mul-result c = omega (arith, paid c)

overflow_add-result : tie.Need-overflow_add-result
overflow_add-result c = omega (arith, paid c, c.requires.0)

returns : tie.Need-returns
returns c = refl

pub total_spec : {M : Type 1} → statement M
total_spec =
    tie.close
    (tie.spec
    overflow_mul-result
    overflow_add-result
    returns)
