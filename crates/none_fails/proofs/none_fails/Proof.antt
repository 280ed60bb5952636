-- `none_fails` meets its contract: the smallest deadline, then one search over all lengths without the extra, another over those that gain.
-- Assumes nothing.
use mathlib.Core.Path.{◌≡◌, sym, ◌∙◌}
use mathlib.Core.Bool.{true}
use borrow.Author.Rules.{rules}
use borrow.Author.Tests.{not-true, not-false}
use native.Mathlib.Omega.{arith}
use Rattle.interrupting.specs.Interrupts.{asked}
use Rattle.interrupting.proofs.SlicesLaws.{asked_room}
use Rattle.masking.specs.Masking.{gains_some}
use Rattle.fails.proofs.FailsLaws.{none_ungained, some_anyway, own_apart, from_some, near_decides}
use Rattle.none_fails.proofs.none_fails.Statement.{statement}
use Rattle.none_fails.proofs.none_fails.Tie as tie

-- some length gains
gained : (c : tie.Then-gains) → gains_some c.args.gain ≡ true
gained c = sym c.gains-gains.ensures ∙ c.if-gains.true

asked_at-requires : tie.Need-asked_at-requires
asked_at-requires c κs =
    let a = c.args in
    (c.requires.0, omega (arith, own_apart a.gain (asked a.loads.now a.n) a.slot a.gap c.requires.1.1 c.requires.0.loads.sound (gained c), c.requires.1.1.due, c.requires.1.0.small))

overflow_add-w : tie.Need-overflow_add-w
overflow_add-w c =
    let a = c.args in
    let within = (asked_at-requires c.before c.lifetimes).1 in
    omega (arith, c.asked_at.ensures, asked_room a.loads.now a.n c.requires.0 _ within)

returns-then-supply_at-w : tie.Need-returns-then-supply_at-w
returns-then-supply_at-w c =
    let a = c.args in
    from_some a.gain (asked a.loads.now a.n) a.slot a.gap c.requires.1.1 c.requires.0.loads.sound (gained c.before.before.before)
    (omega (arith, c.if-supply_at-w.true, c.supply_at.ensures, c.asked_at.ensures))

returns-then-last-ne0 : tie.Need-returns-then-last-ne0
returns-then-last-ne0 c =
    let a = c.args in
    some_anyway a.gain (asked a.loads.now a.n) a.slot a.gap a.hi c.last_short-last.ensures (omega (arith, c.if-last-ne0.true))

returns-then-not-gains : tie.Need-returns-then-not-gains
returns-then-not-gains c =
    let a = c.args in
    none_ungained a.gain (asked a.loads.now a.n) a.slot a.gap a.hi
    (sym c.gains-gains.ensures ∙ not-true _ c.if-not-gains.true-raw)
    c.last_short-last.ensures
    (omega (arith, c.if-last-ne0.false))

-- past the tests some length gains
gained-still : (c : tie.Else-not-gains) → gains_some c.args.gain ≡ true
gained-still c = sym c.gains-gains.ensures ∙ not-false _ c.if-not-gains.false-raw

overflow_sub-gained : tie.Need-overflow_sub-gained
overflow_sub-gained c =
    let a = c.args in
    omega (arith, own_apart a.gain (asked a.loads.now a.n) a.slot a.gap c.requires.1.1 c.requires.0.loads.sound (gained-still c))

returns : tie.Need-returns
returns c =
    let e = c.before in
    let a = e.args in
    near_decides a.gain (asked a.loads.now a.n) a.slot a.gap e.requires.1.1 e.requires.0.loads.sound (gained-still e)
    e.last_short-last.ensures (omega (arith, e.if-last-ne0.false)) c.last_short.ensures

pub none_fails_spec : {M : Type 1} → statement M
none_fails_spec =
    tie.close
    (tie.spec
    (λ c κs. search rules)
    asked_at-requires
    overflow_add-w
    (λ c κs. search rules)
    returns-then-supply_at-w
    (λ c κs. search rules)
    returns-then-last-ne0
    returns-then-not-gains
    overflow_sub-gained
    (λ c κs. search rules)
    returns)
