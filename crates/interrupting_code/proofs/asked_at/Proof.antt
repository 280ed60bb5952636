-- `asked_at` meets its contract: both parts together leave room in 64 bits.
-- Assumes nothing.
use Prim.Native.Nat.{◌+◌}
use mathlib.Core.Path.{◌≡◌}
use borrow.Author.Rules.{rules}
use native.Mathlib.Omega.{arith}
use Rattle.interrupting.specs.Interrupts.{asked}
use Rattle.interrupting.proofs.SlicesLaws.{asked_room}
use Rattle.interrupting_code.proofs.asked_at.Statement.{statement}
use Rattle.interrupting_code.proofs.asked_at.Tie as tie

sum-asked : (c : tie.After-greatest_at) → let a = c.args in c.demand_at-own.result + c.greatest_at.result ≡ asked a.loads.now a.n a.t
unfolding asked
sum-asked c = omega (arith, c.demand_at-own.ensures, c.greatest_at.ensures)

overflow_add-result : tie.Need-overflow_add-result
overflow_add-result c =
    let s = c.before.before.before in
    omega (arith, sum-asked c, asked_room s.args.loads.now s.args.n s.requires.0 s.args.t s.requires.1)

returns : tie.Need-returns
returns c = sum-asked c

pub asked_at_spec : {M : Type 1} → statement M
asked_at_spec =
    tie.close
    (tie.spec
    (λ c κs. search rules)
    (λ c κs. search rules)
    overflow_add-result
    returns)
