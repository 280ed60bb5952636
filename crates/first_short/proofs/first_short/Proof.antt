-- `first_short` meets its contract. The loop's invariant: no length above `lo`, up to `low`, is short, and `top` is.
-- The measure is the distance between them. Assumes nothing.
use Prim.Native.Nat.{ℕ, ◌+◌, ◌-◌, ◌/◌, ◌≤◌, ◌<◌}
use mathlib.Core.Bool.{Bool}
use native.Mathlib.Omega.{arith}
use Rattle.interrupting.specs.Interrupts.{asked}
use Rattle.search.specs.Search.{short}
use Rattle.search.proofs.Halving.{Halved, halving_starts, halving_none, halving_up, halving_down, halving_ends}
use Rattle.first_short.proofs.first_short.Statement.{statement}
use Rattle.first_short.proofs.first_short.Tie as tie

abbrev invariant-loop-low : tie.invariant-loop-low
invariant-loop-low loads n slot gap extra lo hi low₀ top₀ none_short low top = Halved (short (asked loads n) slot gap extra) lo hi low top

abbrev decreases-loop-low : tie.decreases-loop-low
decreases-loop-low loads n slot gap extra lo hi low₀ top₀ none_short low top = top - low

-- the property searched for
abbrev sought : tie.Start invariant-loop-low decreases-loop-low → ℕ → Bool
sought s = short (asked s.args.loads.now s.args.n) s.args.slot s.args.gap s.args.extra

last_short-top-requires : tie.Need-last_short-top-requires invariant-loop-low decreases-loop-low
last_short-top-requires c κs = c.requires

returns-then-none_short : tie.Need-returns-then-none_short invariant-loop-low decreases-loop-low
returns-then-none_short c =
    let s = c.before.before.before in
    let none : c.last_short-top.result ≤ s.args.lo = omega (arith, c.if-none_short.true) in
    halving_none (sought s) s.args.lo s.args.hi c.last_short-top.ensures none

loop-low-init : tie.Need-loop-low-init invariant-loop-low decreases-loop-low
loop-low-init c =
    let above : c.args.lo < c.last_short-top.result = omega (arith, c.if-none_short.false) in
    halving_starts c.last_short-top.ensures above

overflow_add-low : tie.Need-overflow_add-low invariant-loop-low decreases-loop-low
overflow_add-low c = omega arith

overflow_sub-mid : tie.Need-overflow_sub-mid invariant-loop-low decreases-loop-low
overflow_sub-mid c = omega arith

overflow_add-mid : tie.Need-overflow_add-mid invariant-loop-low decreases-loop-low
overflow_add-mid c = omega arith

last_short-found-requires : tie.Need-last_short-found-requires invariant-loop-low decreases-loop-low
last_short-found-requires c κs =
    (c.requires.0, record { usable = c.requires.1.usable; small_extra = c.requires.1.small_extra; small = omega (arith, c.requires.1.small) })

loop-low-smaller-then-none_lower : tie.Need-loop-low-smaller-then-none_lower invariant-loop-low decreases-loop-low
loop-low-smaller-then-none_lower c = omega arith

loop-low-preserved-then-none_lower : tie.Need-loop-low-preserved-then-none_lower invariant-loop-low decreases-loop-low
loop-low-preserved-then-none_lower c =
    let l = c.loop-low in
    let none : c.last_short-found.result ≤ c.args.lo = omega (arith, c.if-none_lower.true) in
    halving_up l.invariant (l.low + (l.top - l.low) / 2) c.last_short-found.result c.last_short-found.ensures (omega arith) (omega arith) none

-- the turn that lowers the top
lowered : (c : tie.Else-none_lower invariant-loop-low decreases-loop-low) →
    let s = c.before.before.before.before.before.before.before in
    let l = c.loop-low in
    Halved (sought s) s.args.lo s.args.hi l.low c.last_short-found.result × (c.last_short-found.result < l.top)
lowered c =
    let l = c.loop-low in
    let above : c.args.lo < c.last_short-found.result = omega (arith, c.if-none_lower.false) in
    halving_down l.invariant (l.low + (l.top - l.low) / 2) c.last_short-found.result c.last_short-found.ensures (omega arith) (omega arith) above

loop-low-smaller : tie.Need-loop-low-smaller invariant-loop-low decreases-loop-low
loop-low-smaller c = omega (arith, (lowered c).0.below, (lowered c).1)

loop-low-preserved : tie.Need-loop-low-preserved invariant-loop-low decreases-loop-low
loop-low-preserved c = (lowered c).0

returns : tie.Need-returns invariant-loop-low decreases-loop-low
returns c = halving_ends c.loop-low.invariant (omega (arith, c.loop-low-test.false))

pub first_short_spec : {M : Type 1} → statement M
first_short_spec =
    tie.close
    (tie.spec
    invariant-loop-low
    decreases-loop-low
    last_short-top-requires
    returns-then-none_short
    loop-low-init
    overflow_add-low
    overflow_sub-mid
    overflow_add-mid
    last_short-found-requires
    loop-low-smaller-then-none_lower
    loop-low-preserved-then-none_lower
    loop-low-smaller
    loop-low-preserved
    returns)
