-- `verdict` meets its contract: no is told at the smallest short length up to the horizon, yes at the closest. Assumes nothing.
use Prim.Native.Nat.{ℕ}
use mathlib.Core.Path.{◌≡◌, ap, ◌∙◌}
use mathlib.Core.List.{List}
use borrow.Author.Rules.{rules}
use native.Mathlib.Omega.{arith}
use native.Mathlib.Nat.{le_of_lt}
use Rattle.demand.specs.Load.{Load, loads_of}
use Rattle.interrupting.specs.Interrupts.{asked}
use Rattle.search.specs.Search.{short}
use Rattle.search.proofs.Bounded.{first_within}
use Rattle.steps.specs.Stepping.{steps}
use Rattle.slack.specs.Slack.{slack_past}
use Rattle.slack.proofs.LeastLaws.{least_within}
use Rattle.masking.specs.declared.Gain.{Gain}
use Rattle.masking.specs.Masking.{Gains, gaining, gain_of}
use Rattle.masking.proofs.OwnLaws.{own_gains}
use Rattle.verdict.specs.Verdict.{verdict_of}
use Rattle.verdict.proofs.Judged.{gap_asked, gap_usable, searched, none_short, judged_yes, judged_no}
use Rattle.readings.proofs.verdict.Statement.{statement}
use Rattle.readings.proofs.verdict.Tie as tie

abbrev start : tie.After-gain_of-gain → tie.Start
start c = c.before.before.before

abbrev loads_at_gain : tie.After-gain_of-gain → List Load
loads_at_gain c = loads_of (start c).args.loads.now (start c).args.n

-- what is asked, with the gain
abbrev asking : tie.After-gain_of-gain → ℕ → ℕ
asking c = gaining c.gain_of-gain.result (asked (start c).args.loads.now (start c).args.n)

-- the gain is the loads' own
own : (c : tie.After-gain_of-gain) → Gains c.gain_of-gain.result (loads_at_gain c) (start c).args.horizon
own c =
    let m = (start c).requires.1.1.1 in
    own_gains _ (loads_at_gain c) c.gain_of-gain.ensures (record { masked_small = omega (arith, m.masked_small); due = m.due })

-- so the verdict on it is that with their gain
masked : (c : tie.After-gain_of-gain) →
    let a = (start c).args in
    verdict_of (asking c) a.horizon a.slot a.loss a.reserve ≡ verdict_of (gaining (gain_of a.masked (loads_at_gain c)) (asked a.loads.now a.n)) a.horizon a.slot a.loss a.reserve
masked c =
    let a = (start c).args in
    ap (λ (g : ℕ → ℕ). verdict_of g a.horizon a.slot a.loss a.reserve) (ap (λ (k : Gain). gaining k (asked a.loads.now a.n)) c.gain_of-gain.ensures)

gap_of-gap-requires : tie.Need-gap_of-gap-requires
gap_of-gap-requires c κs = gap_asked c.requires.1.0 c.requires.1.1.0

first_fails-failing-requires : tie.Need-first_fails-failing-requires
first_fails-failing-requires c κs =
    let s = start c in
    (s.requires.0, (searched s.requires.1.0 s.requires.1.1.0 c.gap_of-gap.ensures (omega arith) (omega (arith, s.requires.1.0)), own c))

closest_of-close-requires : tie.Need-closest_of-close-requires
closest_of-close-requires c κs =
    let g = c.before.before in
    let s = start g in
    let f = g.gap_of-gap in
    let none = none_short (asking g) s.args.slot f.result s.args.horizon c.first_fails-failing.ensures c.if-failing-eq0.true in
    (s.requires.0, (searched s.requires.1.0 s.requires.1.1.0 f.ensures (omega arith) (omega (arith, s.requires.1.0)), (own g, none)))

reading-requires : tie.Need-reading-requires
reading-requires c κs =
    let g = c.before.before.before in
    let s = start g in
    let f = g.gap_of-gap in
    let within = least_within (steps (asking g)) (slack_past (asking g) s.args.slot f.result) s.args.horizon in (
      (s.requires.0, omega (arith, s.requires.1.0.horizon_small, c.closest_of-close.ensures, within)),
      ((own g).small_extra, (s.requires.1.0.slot_some, le_of_lt (gap_usable s.requires.1.0 s.requires.1.1.0 f.ensures))),
    )

returns-then-failing-eq0 : tie.Need-returns-then-failing-eq0
returns-then-failing-eq0 c =
    let g = c.before.before.before.before in
    let s = start g in
    let f = g.gap_of-gap in
    judged_yes (asking g) s.args.horizon s.args.loss s.args.reserve s.requires.1.0.slot_some f.ensures
    c.first_fails-failing.ensures c.if-failing-eq0.true c.closest_of-close.ensures c.reading.ensures ∙
    masked g

reading-requires-2 : tie.Need-reading-requires-2
reading-requires-2 c κs =
    let g = c.before.before in
    let s = start g in
    let f = g.gap_of-gap in
    let within = first_within (short (asking g) s.args.slot f.result 0) s.args.horizon in (
      (s.requires.0, omega (arith, s.requires.1.0.horizon_small, c.first_fails-failing.ensures, within)),
      ((own g).small_extra, (s.requires.1.0.slot_some, le_of_lt (gap_usable s.requires.1.0 s.requires.1.1.0 f.ensures))),
    )

returns : tie.Need-returns
returns c =
    let g = c.before.before.before in
    let s = start g in
    let f = g.gap_of-gap in
    judged_no (asking g) s.args.horizon s.args.loss s.args.reserve s.requires.1.0.slot_some f.ensures
    c.first_fails-failing.ensures c.if-failing-eq0.false c.reading-2.ensures ∙
    masked g

pub verdict_spec : {M : Type 1} → statement M
verdict_spec =
    tie.close
    (tie.spec
    gap_of-gap-requires
    (λ c κs. search rules)
    first_fails-failing-requires
    closest_of-close-requires
    reading-requires
    returns-then-failing-eq0
    reading-requires-2
    returns)
