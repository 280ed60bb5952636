-- `closest` meets its contract. The loop's invariant: `supply` and `w` are supply and demand at t, `least` is the slack at the step
-- `best`, and no step above t is closer. The measure is t. Assumes nothing.
use Prim.Native.Nat.{ℕ, ◌+◌, ◌-◌, ◌^◌, ◌≤◌, ◌<◌}
use mathlib.Core.Path.{◌≡◌, ap₂}
use mathlib.Core.Bool.{true}
use native.Mathlib.Omega.{arith}
use Rattle.demand.specs.Supply.{supply_past, last_with}
use Rattle.demand.specs.Lawful.{Rising}
use Rattle.demand.proofs.Supply.{supply_within}
use Rattle.interrupting.specs.Interrupts.{asked}
use Rattle.interrupting.proofs.AskedLaws.{asked_rising}
use Rattle.steps.specs.Stepping.{steps}
use Rattle.steps.proofs.StepLaws.{has_stepped, steps_from}
use Rattle.slack.proofs.Closing.{Covered, covered, asks_some, Closing, Closer, closing_starts, closing_ends, closing_passes, last_covers, closing_moves}
use Rattle.slack_code.proofs.closest.Statement.{statement}
use Rattle.slack_code.proofs.closest.Tie as tie
use Rattle.slack_code.proofs.closest.Lts.{else-w-least, then-w-least}

abbrev invariant-loop-t : tie.invariant-loop-t
invariant-loop-t loads n slot gap from hi best₀ spare least₀ t₀ supply₀ w₀ best least t supply w =
    Closing (asked loads n) slot gap from hi t supply best least × (w ≡ asked loads n t)

abbrev decreases-loop-t : tie.decreases-loop-t
decreases-loop-t loads n slot gap from hi best₀ spare least₀ t₀ supply₀ w₀ best least t supply w = t

-- what is asked: it steps at `from`, it never falls, and from there to hi it is covered
abbrev asking : tie.Start invariant-loop-t decreases-loop-t → ℕ → ℕ
asking s = asked s.args.loads.now s.args.n

begins : (s : tie.Start invariant-loop-t decreases-loop-t) → steps (asking s) s.args.from ≡ true
begins s = s.requires.1.1.0.0

some : (s : tie.Start invariant-loop-t decreases-loop-t) → 1 ≤ s.args.from
some s = steps_from (asking s) s.args.from (has_stepped (asking s) s.args.from (begins s))

rising : (s : tie.Start invariant-loop-t decreases-loop-t) → Rising (asking s)
rising s = asked_rising s.args.loads.now s.args.n s.requires.0

all : (s : tie.Start invariant-loop-t decreases-loop-t) → Covered (asking s) s.args.slot s.args.gap s.args.from s.args.hi
all s = covered (asking s) s.args.slot s.args.gap s.args.from (some s) s.requires.1.1.1

abbrev start : tie.At-loop-t invariant-loop-t decreases-loop-t → tie.Start invariant-loop-t decreases-loop-t
start c = c.before.before.before.before.before.before

-- supply's own terms: some of each slot is usable
enough : (s : tie.Start invariant-loop-t decreases-loop-t) → (1 ≤ s.args.slot) × (s.args.gap ≤ s.args.slot)
enough s = (omega (arith, s.requires.1.0.usable), omega (arith, s.requires.1.0.usable))

-- a turn stands at `from` or past it
past : (c : tie.In-loop-t invariant-loop-t decreases-loop-t) → (start c.before).args.from ≤ c.loop-t.t
past c = omega (arith, c.loop-t-test.true)

-- there the supply meets the demand
met : (c : tie.In-loop-t invariant-loop-t decreases-loop-t) → c.loop-t.w ≤ c.loop-t.supply
met c =
    let i = c.loop-t.invariant in
    omega (arith, i.1, i.0.supplied, all (start c.before) c.loop-t.t (past c) i.0.within)

-- demand and least slack are at most the lengths that they belong to
room : (c : tie.In-loop-t invariant-loop-t decreases-loop-t) → c.loop-t.w + c.loop-t.least < 2 ^ 37
room c =
    let l = c.loop-t in
    let s = start c.before in
    omega (
      arith,
      met c,
      l.invariant.0.supplied,
      l.invariant.0.within,
      l.invariant.0.best_within,
      l.invariant.0.spare,
      s.requires.1.0.small,
      supply_within s.args.slot s.args.gap l.t,
      supply_within s.args.slot s.args.gap l.best,
    )

supply_at-spare-requires : tie.Need-supply_at-spare-requires invariant-loop-t decreases-loop-t
supply_at-spare-requires c κs = enough c.before

asked_at-requires : tie.Need-asked_at-requires invariant-loop-t decreases-loop-t
asked_at-requires c κs =
    (c.requires.0, omega (arith, c.requires.1.1.0.1, c.requires.1.0.small))

overflow_sub-least : tie.Need-overflow_sub-least invariant-loop-t decreases-loop-t
overflow_sub-least c =
    let s = c.before.before.before in
    omega (arith, c.asked_at.ensures, c.supply_at-spare.ensures, all s s.args.from (omega arith) s.requires.1.1.0.1)

supply_at-supply-requires : tie.Need-supply_at-supply-requires invariant-loop-t decreases-loop-t
supply_at-supply-requires c κs = enough c.before.before.before

asked_at-w-requires : tie.Need-asked_at-w-requires invariant-loop-t decreases-loop-t
asked_at-w-requires c κs =
    (c.requires.0, c.requires.1.0.small)

loop-t-init : tie.Need-loop-t-init invariant-loop-t decreases-loop-t
loop-t-init c =
    let d = c.before.before in
    let s = d.before.before.before in
    let least : d.supply_at-spare.result - d.asked_at.result ≡ supply_past s.args.slot s.args.gap s.args.from - asking s s.args.from =
    ap₂ ◌-◌ d.supply_at-spare.ensures d.asked_at.ensures in
    (closing_starts (asking s) s.args.slot s.args.gap s.args.from s.args.hi (all s) (begins s) s.requires.1.1.0.1 least c.supply_at-supply.ensures, c.asked_at-w.ensures)

overflow_add-w : tie.Need-overflow_add-w invariant-loop-t decreases-loop-t
overflow_add-w c = omega (arith, room c)

overflow_add-supply : tie.Need-overflow_add-supply invariant-loop-t decreases-loop-t
overflow_add-supply c = omega (arith, room c.before)

last_step-best-requires : tie.Need-last_step-best-requires invariant-loop-t decreases-loop-t
last_step-best-requires c κs =
    let s = start c.before.before in
    (s.requires.0, omega (arith, c.loop-t.invariant.0.within, s.requires.1.0.small))

supply_at-reached-requires : tie.Need-supply_at-reached-requires invariant-loop-t decreases-loop-t
supply_at-reached-requires c κs = enough (start c.before.before.before)

-- at the last step up to t too the supply meets the demand
met-last : (c : tie.After-supply_at-reached invariant-loop-t decreases-loop-t) → c.loop-t.w ≤ c.supply_at-reached.result
met-last c =
    let l = c.before.before.before.before in
    let s = start l in
    last_covers (rising s) (begins s) (all s) l.loop-t.invariant.0 l.loop-t.invariant.1 (past c.before.before.before) c.last_step-best.ensures c.supply_at-reached.ensures

overflow_sub-least-else-w-least : tie.Need-overflow_sub-least-else-w-least invariant-loop-t decreases-loop-t
overflow_sub-least-else-w-least c = omega (arith, met-last c, met c.before.before.before)

overflow_sub-supply : tie.Need-overflow_sub-supply invariant-loop-t decreases-loop-t
overflow_sub-supply c =
    let l = c.before.before.before.before in
    let s = start l in
    omega (arith, met-last c, l.loop-t.invariant.1, asks_some (asking s) {t = l.loop-t.t} (rising s) (begins s) (past c.before.before.before))

-- the turn's jump, by either way
turned : (c : tie.Joined-w-least invariant-loop-t decreases-loop-t) →
    let l = c.before.before in
    let a = (start l).args in
    Closer (asking (start l)) a.slot a.gap a.from a.hi l.loop-t.t c.if-w-least.supply c.if-w-least.best c.if-w-least.least
turned c =
    let l = c.before.before in
    let s = start l in
    let i = l.loop-t.invariant in
    (elim c.if-w-least.branch [
      | then-w-least w ↦ let more : l.loop-t.w + l.loop-t.least < l.loop-t.supply = omega (arith, w.if-w-least.true) in
          rw (w.best-is, w.least-is, w.supply-is) (closing_passes i.0 l.loop-t.w (rising s) s.requires.1.0.usable i.1 more)
      | else-w-least w ↦ let no_more : l.loop-t.supply ≤ l.loop-t.w + l.loop-t.least = omega (arith, w.if-w-least.false) in
          rw (w.best-is, w.least-is, w.supply-is)
          (closing_moves (rising s) (begins s) (all s) i.0 i.1 (past c.before) w.last_step-best.ensures w.supply_at-reached.ensures s.requires.1.0.usable no_more)
    ])

-- so the length that the search goes on at is small
small : (c : tie.Joined-w-least invariant-loop-t decreases-loop-t) → last_with (start c.before.before).args.slot (start c.before.before).args.gap c.if-w-least.supply < 2 ^ 36
small c =
    omega (arith, (turned c).1, c.loop-t.invariant.0.within, (start c.before.before).requires.1.0.small)

last_with-t-requires : tie.Need-last_with-t-requires invariant-loop-t decreases-loop-t
last_with-t-requires c κs = ((start c.before.before).requires.1.0.usable, small c)

asked_at-w-requires-in-loop-t : tie.Need-asked_at-w-requires-in-loop-t invariant-loop-t decreases-loop-t
asked_at-w-requires-in-loop-t c κs = ((start c.before.before.before).requires.0, rw c.last_with-t.ensures (small c.before))

loop-t-smaller : tie.Need-loop-t-smaller invariant-loop-t decreases-loop-t
loop-t-smaller c = rw c.last_with-t.ensures (turned c.before.before).1

loop-t-preserved : tie.Need-loop-t-preserved invariant-loop-t decreases-loop-t
loop-t-preserved c = (rw c.last_with-t.ensures (turned c.before.before).0, c.asked_at-w-in-loop-t.ensures)

returns : tie.Need-returns invariant-loop-t decreases-loop-t
returns c = closing_ends c.loop-t.invariant.0 (some (start c.before)) (omega (arith, c.loop-t-test.false))

pub closest_spec : {M : Type 1} → statement M
closest_spec =
    tie.close
    (tie.spec
    invariant-loop-t
    decreases-loop-t
    supply_at-spare-requires
    asked_at-requires
    overflow_sub-least
    supply_at-supply-requires
    asked_at-w-requires
    loop-t-init
    overflow_add-w
    overflow_add-supply
    last_step-best-requires
    supply_at-reached-requires
    overflow_sub-least-else-w-least
    overflow_sub-supply
    last_with-t-requires
    asked_at-w-requires-in-loop-t
    loop-t-smaller
    loop-t-preserved
    returns)
