-- `first_fails` meets its contract: the first of the lengths before the gain, the first of those that gain, or the first past them.
-- Assumes nothing.
use Prim.Native.Nat.{ℕ, ◌^◌, ◌≤◌, ◌<◌}
use mathlib.Core.Path.{◌≡◌, sym, ◌∙◌}
use mathlib.Core.Bool.{true}
use borrow.Author.Rules.{rules}
use borrow.Author.Tests.{not-true, not-false}
use native.Mathlib.Omega.{arith}
use Rattle.interrupting.specs.Interrupts.{asked}
use Rattle.interrupting.specs.Interrupted.{Interrupted}
use Rattle.search.specs.Search.{Searched}
use Rattle.masking.specs.Masking.{gains_some}
use Rattle.fails.proofs.FailsLaws.{own_apart, first_ungained, first_early, first_near, first_far}
use Rattle.first_fails.proofs.first_fails.Statement.{statement}
use Rattle.first_fails.proofs.first_fails.Tie as tie

-- past the first test some length gains, so its ends lie apart
gained : (c : tie.Else-not-gains) → gains_some c.args.gain ≡ true
gained c = sym c.gains.ensures ∙ not-false _ c.if-not-gains.false-raw

apart : (c : tie.Else-not-gains) → let k = c.args.gain in (1 ≤ k.from) × (k.from < k.until)
apart c =
    let a = c.args in
    own_apart a.gain (asked a.loads.now a.n) a.slot a.gap c.requires.1.1 c.requires.0.loads.sound (gained c)

returns-then-not-gains : tie.Need-returns-then-not-gains
returns-then-not-gains c =
    let a = c.args in
    first_ungained a.gain (asked a.loads.now a.n) a.slot a.gap a.hi (sym c.gains.ensures ∙ not-true _ c.if-not-gains.true-raw) c.first_short.ensures

overflow_sub-before : tie.Need-overflow_sub-before
overflow_sub-before c = omega (arith, apart c)

-- what the searches over ranges ask
searched : (c : tie.Else-not-gains) (b extra : ℕ) → extra < 2 ^ 36 → b ≤ c.args.gain.until →
    let a = c.args in Interrupted a.loads.now a.n × Searched a.slot a.gap extra b
searched c b extra small h =
    (c.requires.0, record { usable = c.requires.1.0.usable; small_extra = small; small = omega (arith, c.requires.1.0.small, c.requires.1.1.due) })

first_short-early-requires : tie.Need-first_short-early-requires
first_short-early-requires c κs = searched c _ _ (omega arith) (omega (arith, apart c))

returns-then-early-ne0 : tie.Need-returns-then-early-ne0
returns-then-early-ne0 c =
    let e = c.before.before in
    let a = e.args in
    first_early a.gain (asked a.loads.now a.n) a.slot a.gap e.requires.1.1 e.requires.0.loads.sound (gained e)
    c.first_short-early.ensures c.if-early-ne0.true

overflow_sub-gained : tie.Need-overflow_sub-gained
overflow_sub-gained c = omega (arith, apart c.before.before)

first_short-near-requires : tie.Need-first_short-near-requires
first_short-near-requires c κs =
    let e = c.before.before in
    searched e _ _ (omega (arith, e.requires.1.1.small_extra)) (omega (arith, apart e))

returns-then-fails_near : tie.Need-returns-then-fails_near
returns-then-fails_near c =
    let f = c.before.before in
    let e = f.before.before in
    let a = e.args in
    first_near a.gain (asked a.loads.now a.n) a.slot a.gap e.requires.1.1 e.requires.0.loads.sound (gained e)
    f.first_short-early.ensures f.if-early-ne0.false c.first_short-near.ensures c.if-fails_near.true

returns : tie.Need-returns
returns c =
    let n = c.before.before in
    let f = n.before in
    let e = f.before.before in
    let a = e.args in
    first_far a.gain (asked a.loads.now a.n) a.slot a.gap e.requires.1.1 e.requires.0.loads.sound (gained e)
    f.first_short-early.ensures f.if-early-ne0.false n.first_short-near.ensures c.if-fails_near.false c.first_short-2.ensures

pub first_fails_spec : {M : Type 1} → statement M
first_fails_spec =
    tie.close
    (tie.spec
    (λ c κs. search rules)
    (λ c κs. search rules)
    returns-then-not-gains
    overflow_sub-before
    first_short-early-requires
    returns-then-early-ne0
    overflow_sub-gained
    first_short-near-requires
    returns-then-fails_near
    (λ c κs. search rules)
    returns)
