-- `closest_gained` meets its contract: the closest of the lengths that gain and the closest past them, whichever has less to spare.
-- Assumes nothing.
use Prim.Native.Nat.{ℕ, ◌-◌, ◌≤◌, ◌<◌}
use mathlib.Core.Path.{◌≡◌}
use mathlib.Core.Bool.{true}
use native.Mathlib.Omega.{arith}
use lib.ListN.{length}
use Rattle.demand.specs.Load.{loads_of}
use Rattle.demand.specs.Supply.{supply_past}
use Rattle.demand.specs.Lawful.{Rising}
use Rattle.demand.proofs.Supply.{supply_within}
use Rattle.interrupting.specs.Interrupts.{asked}
use Rattle.interrupting.proofs.AskedLaws.{asked_rising}
use Rattle.search.specs.Search.{Searched}
use Rattle.steps.specs.Stepping.{steps}
use Rattle.slack.specs.Slack.{slack_past}
use Rattle.slack.proofs.LeastLaws.{LeastFrom}
use Rattle.closeness.proofs.BeginsLaws.{gains_there, from_steps, until_steps}
use Rattle.closeness.proofs.GainedLaws.{plain_met, plain_covered, apart, from_some, near_plain, far_plain, far_closest, near_closest}
use Rattle.closest_gained.proofs.closest_gained.Statement.{statement}
use Rattle.closest_gained.proofs.closest_gained.Tie as tie

-- what is asked without the gain; it never falls, and it steps at both ends of the gain
abbrev asking : tie.Start → ℕ → ℕ
asking s = asked s.args.loads.now s.args.n

rising : (s : tie.Start) → Rising (asking s)
rising s = asked_rising s.args.loads.now s.args.n s.requires.0

there : (s : tie.Start) → 1 ≤ length (loads_of s.args.loads.now s.args.n)
there s = gains_there (loads_of s.args.loads.now s.args.n) s.requires.1.1.0.0 s.requires.1.1.0.1

begins : (s : tie.Start) → steps (asking s) s.args.gain.from ≡ true
begins s = from_steps s.args.loads.now s.args.n s.requires.0 s.requires.1.1.0.0 (there s)

ends : (s : tie.Start) → steps (asking s) s.args.gain.until ≡ true
ends s = until_steps s.args.loads.now s.args.n s.requires.0 s.requires.1.1.0.0 (there s)

due : (s : tie.Start) → s.args.gain.until ≤ s.args.hi
due s = s.requires.1.1.0.0.due

apart-at : (s : tie.Start) → s.args.gain.from < s.args.gain.until
apart-at s =
    let a = s.args in
    apart a.gain (asking s) a.slot a.gap a.hi (due s) (rising s) (begins s) (ends s) s.requires.1.1.0.1 s.requires.1.0.usable s.requires.1.1.1

some : (s : tie.Start) → 1 ≤ s.args.gain.from
some s =
    let a = s.args in
    from_some a.gain (asking s) a.slot a.gap a.hi (due s) (rising s) (begins s) (ends s) s.requires.1.1.0.1 s.requires.1.0.usable s.requires.1.1.1

-- what `closest` asks of a range that ends at b
searched : (s : tie.Start) (b : ℕ) → b ≤ s.args.hi → Searched s.args.slot s.args.gap 0 b
searched s b h =
    record { usable = s.requires.1.0.usable; small_extra = s.requires.1.0.small_extra; small = omega (arith, s.requires.1.0.small) }

overflow_sub-gained : tie.Need-overflow_sub-gained
overflow_sub-gained c = omega (arith, apart-at c.before)

closest-near-requires : tie.Need-closest-near-requires
closest-near-requires c κs =
    let s = c.before in
    let a = s.args in
    (s.requires.0, (searched s _ (omega (arith, due s)), ((begins s, omega (arith, apart-at s)), plain_covered a.gain (asking s) a.slot a.gap a.hi s.requires.1.1.1 _ _ (omega (arith, due s)))))

closest-far-requires : tie.Need-closest-far-requires
closest-far-requires c κs =
    let s = c.before.before in
    let a = s.args in
    (s.requires.0, (searched s _ (omega (arith, due s)), ((ends s, due s), plain_covered a.gain (asking s) a.slot a.gap a.hi s.requires.1.1.1 _ _ (omega (arith, due s)))))

abbrev start : tie.After-closest-far → tie.Start
start c = c.before.before.before

-- the closest of each range
near-at : (c : tie.After-closest-far) → let a = (start c).args in
    LeastFrom (steps (asking (start c))) (slack_past (asking (start c)) a.slot a.gap) a.gain.from (a.gain.until - 1) c.closest-near.result
near-at c =
    let s = start c in
    let a = s.args in
    near_plain a.gain (asking s) a.slot a.gap a.hi (due s) (rising s) (begins s) (ends s) s.requires.1.1.0.1 s.requires.1.0.usable s.requires.1.1.1 c.closest-near.ensures c.closest-far.ensures

far_at : (c : tie.After-closest-far) → let a = (start c).args in
    LeastFrom (steps (asking (start c))) (slack_past (asking (start c)) a.slot a.gap) a.gain.until a.hi c.closest-far.result
far_at c =
    let s = start c in
    let a = s.args in
    far_plain a.gain (asking s) a.slot a.gap a.hi (due s) (rising s) (begins s) (ends s) s.requires.1.1.0.1 s.requires.1.0.usable s.requires.1.1.1 c.closest-near.ensures c.closest-far.ensures

-- what is asked without the gain is met there
met_at : (s : tie.Start) (x : ℕ) → 1 ≤ x → x ≤ s.args.hi → asking s x ≤ supply_past s.args.slot s.args.gap x
met_at s x h g =
    let a = s.args in
    plain_met a.gain (asking s) a.slot a.gap a.hi s.requires.1.1.1 x h g

spare-requires : tie.Need-spare-requires
spare-requires c κs =
    let s = start c in
    let f = far_at c in
    (s.requires.0, (searched s c.closest-far.result f.within, met_at s c.closest-far.result (omega (arith, f.begins, apart-at s)) f.within))

overflow_add-spare : tie.Need-overflow_add-spare
unfolding slack_past
overflow_add-spare c =
    let s = start c.before in
    omega (
      arith,
      c.spare.ensures,
      (far_at c.before).within,
      s.requires.1.0.small,
      s.requires.1.1.0.0.small_extra,
      supply_within s.args.slot s.args.gap c.closest-far.result,
    )

spare-requires-2 : tie.Need-spare-requires-2
spare-requires-2 c κs =
    let n = near-at c.before in
    let s = start c.before in
    let near = c.closest-near.result in
    let inside : near ≤ s.args.hi = omega (arith, n.within, due s) in
    (s.requires.0, (searched s near inside, met_at s near (omega (arith, n.begins, some s)) inside))

returns-then-spare-extra : tie.Need-returns-then-spare-extra
returns-then-spare-extra c =
    let p = c.before.before.before in
    let s = start p in
    let a = s.args in
    far_closest a.gain (asking s) a.slot a.gap a.hi (due s) (rising s) (begins s) (ends s) s.requires.1.1.0.1 s.requires.1.0.usable s.requires.1.1.1
    p.closest-near.ensures p.closest-far.ensures c.spare.ensures c.spare-2.ensures (omega (arith, c.if-spare-extra.true))

returns : tie.Need-returns
returns c =
    let p = c.before.before.before in
    let s = start p in
    let a = s.args in
    near_closest a.gain (asking s) a.slot a.gap a.hi (due s) (rising s) (begins s) (ends s) s.requires.1.1.0.1 s.requires.1.0.usable s.requires.1.1.1
    p.closest-near.ensures p.closest-far.ensures c.spare.ensures c.spare-2.ensures (omega (arith, c.if-spare-extra.false))

pub closest_gained_spec : {M : Type 1} → statement M
closest_gained_spec =
    tie.close
    (tie.spec
    overflow_sub-gained
    closest-near-requires
    closest-far-requires
    spare-requires
    overflow_add-spare
    spare-requires-2
    returns-then-spare-extra
    returns)
