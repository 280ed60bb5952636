-- `last_short` meets its contract. The loop's invariant: `supply` is the supply at t, and no length above t is short.
-- The measure is t. Assumes nothing.
use Prim.Native.Nat.{ℕ, ◌+◌, ◌-◌, ◌<◌}
use native.Mathlib.Omega.{arith}
use borrow.Author.Rules.{rules}
use Rattle.demand.specs.Supply.{last_with}
use Rattle.demand.specs.Lawful.{Rising}
use Rattle.interrupting.specs.Interrupts.{asked}
use Rattle.interrupting.proofs.SlicesLaws.{asked_room}
use Rattle.interrupting.proofs.AskedLaws.{asked_rising}
use Rattle.search.proofs.Descent.{Descended, descent_starts, descent_finds, descent_ends, descent_clears, descent_next}
use Rattle.last_short.proofs.last_short.Statement.{statement}
use Rattle.last_short.proofs.last_short.Tie as tie

abbrev invariant-loop-t : tie.invariant-loop-t
invariant-loop-t loads n slot gap extra hi t₀ supply₀ t supply = Descended (asked loads n) slot gap extra hi t supply

abbrev decreases-loop-t : tie.decreases-loop-t
decreases-loop-t loads n slot gap extra hi t₀ supply₀ t supply = t

-- what is asked, and why it never falls
abbrev asking : tie.Start invariant-loop-t decreases-loop-t → ℕ → ℕ
asking s = asked s.args.loads.now s.args.n

rising : (s : tie.Start invariant-loop-t decreases-loop-t) → Rising (asking s)
rising s = asked_rising s.args.loads.now s.args.n s.requires.0

supply_at-supply-requires : tie.Need-supply_at-supply-requires invariant-loop-t decreases-loop-t
supply_at-supply-requires c κs = omega arith

loop-t-init : tie.Need-loop-t-init invariant-loop-t decreases-loop-t
loop-t-init c = descent_starts c.supply_at-supply.ensures

overflow_add-w : tie.Need-overflow_add-w invariant-loop-t decreases-loop-t
overflow_add-w c =
    let s = c.before.before.before.before.before in
    let a = s.args in
    let room = asked_room a.loads.now a.n s.requires.0 c.loop-t.t (omega arith) in
    omega (arith, c.asked_at.ensures, room)

returns-then-supply-w : tie.Need-returns-then-supply-w invariant-loop-t decreases-loop-t
returns-then-supply-w c =
    let l = c.loop-t in
    descent_finds l.invariant c.loop-t-test.true (omega (arith, c.if-supply-w.true, c.asked_at.ensures))

returns-then-w-eq0 : tie.Need-returns-then-w-eq0 invariant-loop-t decreases-loop-t
returns-then-w-eq0 c =
    let s = c.before.before.before.before.before.before.before in
    descent_clears (rising s) c.loop-t.invariant (omega (arith, c.if-w-eq0.true, c.asked_at.ensures))

overflow_sub-supply : tie.Need-overflow_sub-supply invariant-loop-t decreases-loop-t
overflow_sub-supply c = omega arith

-- the turn's jump
next : (c : tie.Else-w-eq0 invariant-loop-t decreases-loop-t) →
    let s = c.before.before.before.before.before.before.before in
    let v = c.asked_at.result + s.args.extra - 1 in
    Descended (asking s) s.args.slot s.args.gap s.args.extra s.args.hi (last_with s.args.slot s.args.gap v) v
    × (last_with s.args.slot s.args.gap v < c.loop-t.t)
next c =
    let s = c.before.before.before.before.before.before.before in
    let w = c.asked_at in
    descent_next (rising s) c.loop-t.invariant (w.result + s.args.extra) s.requires.1.usable (omega (arith, w.ensures)) c.if-w-eq0.false c.if-supply-w.false

last_with-t-requires : tie.Need-last_with-t-requires invariant-loop-t decreases-loop-t
last_with-t-requires c κs =
    let s = c.before.before.before.before.before.before.before in
    (s.requires.1.usable, omega (arith, (next c).1, c.loop-t.invariant.within, s.requires.1.small))

loop-t-smaller : tie.Need-loop-t-smaller invariant-loop-t decreases-loop-t
loop-t-smaller c = rw c.last_with-t.ensures (next c.before).1

loop-t-preserved : tie.Need-loop-t-preserved invariant-loop-t decreases-loop-t
loop-t-preserved c = rw c.last_with-t.ensures (next c.before).0

returns : tie.Need-returns invariant-loop-t decreases-loop-t
returns c = descent_ends c.loop-t.invariant (omega arith)

pub last_short_spec : {M : Type 1} → statement M
last_short_spec =
    tie.close
    (tie.spec
    invariant-loop-t
    decreases-loop-t
    supply_at-supply-requires
    loop-t-init
    (λ c κs. search rules)
    overflow_add-w
    returns-then-supply-w
    returns-then-w-eq0
    overflow_sub-supply
    last_with-t-requires
    loop-t-smaller
    loop-t-preserved
    returns)
