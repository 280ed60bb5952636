-- `term_at` meets its contract: before the deadline nothing is asked, and from there on the term fits.
-- Assumes nothing.
use Prim.Native.Nat.{◌*◌, ◌-◌, ◌/◌, ◌+◌, ◌<◌, ◌≤◌}
use mathlib.Core.Path.{◌≡◌, sym, ap}
use borrow.Author.Rules.{rules}
use native.Mathlib.Nat.{div-le_self, mul-zero}
use native.Mathlib.Omega.{arith}
use Rattle.demand.specs.Demand.{jobs}
use Rattle.demand.proofs.Demand.{jobs_due, jobs_none}
use Rattle.demand_code.proofs.term_at.Statement.{statement}
use Rattle.demand_code.proofs.term_at.Tie as tie

-- from the deadline on, the term by one division
due : (c : tie.Then-deadline-t) → let a = c.args in a.cost * jobs a.deadline a.period a.t ≡ a.cost * ((a.t - a.deadline) / a.period + 1)
due c =
    let a = c.args in
    let on : a.deadline ≤ a.t = omega (arith, c.if-deadline-t.true) in
    ap (◌*◌ a.cost) (jobs_due a.period on)

overflow_add-result : tie.Need-overflow_add-result
overflow_add-result c =
    let a = c.args in
    omega (arith, div-le_self (a.t - a.deadline) a.period)

overflow_mul-result : tie.Need-overflow_mul-result
overflow_mul-result c = omega (arith, due c, c.requires.1)

returns-then-deadline-t : tie.Need-returns-then-deadline-t
returns-then-deadline-t c = sym (due c)

returns : tie.Need-returns
returns c =
    let a = c.args in
    let early : a.t < a.deadline = omega (arith, c.if-deadline-t.false) in
    omega (arith, ap (◌*◌ a.cost) (jobs_none a.period early), mul-zero a.cost)

pub term_at_spec : {M : Type 1} → statement M
term_at_spec =
    tie.close
    (tie.spec
    (λ c. search rules)
    overflow_add-result
    overflow_mul-result
    returns-then-deadline-t
    returns)
