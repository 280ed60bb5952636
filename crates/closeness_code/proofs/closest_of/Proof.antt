-- `closest_of` meets its contract: the closest from the first length at which something is asked, or of those before the gain and those
-- from there on, whichever has less to spare.
-- Assumes nothing.
use Prim.Native.Nat.{ℕ, ◌+◌, ◌-◌, ◌≤◌, ◌<◌}
use mathlib.Core.Path.{◌≡◌, ap, sym, ◌∙◌}
use mathlib.Core.Bool.{true}
use borrow.Author.Rules.{rules}
use borrow.Author.Tests.{not-true, not-false}
use native.Mathlib.Omega.{arith}
use Rattle.demand.specs.Load.{loads_of}
use Rattle.demand.specs.Supply.{supply_past}
use Rattle.demand.proofs.Supply.{supply_within}
use Rattle.interrupting.specs.Interrupts.{asked}
use Rattle.interrupting.proofs.AskedLaws.{asked_above}
use Rattle.search.specs.Search.{Searched}
use Rattle.steps.specs.Stepping.{steps}
use Rattle.slack.specs.Slack.{slack_past}
use Rattle.slack.proofs.LeastLaws.{LeastFrom}
use Rattle.masking.specs.Masking.{gaining, gain_at, gains_some}
use Rattle.masking.proofs.GainLaws.{gains_somewhere, gain_most, gaining_after}
use Rattle.closeness.specs.Begins.{Begins}
use Rattle.closeness.proofs.BeginsLaws.{begins_steps, own_first, gains_there, gains_nothing, from_steps}
use Rattle.closeness.proofs.GainedLaws.{plain_met, plain_covered}
use Rattle.closeness.proofs.EarlyLaws.{closest_none, closest_ungained, late_least, late_alone, early_plain, late_closest, early_closest}
use Rattle.closeness_code.proofs.closest_of.Statement.{statement}
use Rattle.closeness_code.proofs.closest_of.Tie as tie

-- what is asked without the gain
abbrev asking : tie.Start → ℕ → ℕ
asking s = asked s.args.loads.now s.args.n

first_asked-first-requires : tie.Need-first_asked-first-requires
first_asked-first-requires c κs =
    (c.requires.0, own_first (loads_of c.args.loads.now c.args.n) c.requires.1.1.0 c.requires.0.loads.sound)

-- where nothing is asked up to hi there is no closest
nothing : (s : tie.Start) → ((x : ℕ) → x ≤ s.args.hi → asking s x ≡ 0) → (x : ℕ) → x ≤ s.args.hi → gaining s.args.gain (asking s) x ≡ 0
nothing s none x h =
    let ls = loads_of s.args.loads.now s.args.n in
    let over : s.args.gain.until ≡ 0 =
    gains_nothing ls s.requires.1.1.0 s.requires.0.loads.sound
    (λ y b. omega (arith, asked_above s.args.loads.now s.args.n s.requires.0 y, none y b)) in
    gaining_after s.args.gain x (asking s) (omega arith) ∙ none x h

returns-then-first-eq0 : tie.Need-returns-then-first-eq0
returns-then-first-eq0 c =
    let s = c.before.before.before in
    let a = s.args in
    closest_none a.gain (asking s) a.slot a.gap a.hi (nothing s (λ x h. c.first_asked-first.ensures.never c.if-first-eq0.true x))

returns-then-hi-first : tie.Need-returns-then-hi-first
returns-then-hi-first c =
    let f = c.before.before in
    let s = f.before.before in
    let a = s.args in
    closest_none a.gain (asking s) a.slot a.gap a.hi (nothing s (λ x h. f.first_asked-first.ensures.none x (omega (arith, c.if-hi-first.true))))

-- past these tests there is a first length, up to hi
abbrev start : tie.Else-hi-first → tie.Start
start c = c.before.before.before.before

abbrev first : tie.Else-hi-first → ℕ
first c = c.first_asked-first.result

begins : (c : tie.Else-hi-first) → Begins (asking (start c)) (first c)
begins c = c.first_asked-first.ensures

some : (c : tie.Else-hi-first) → 1 ≤ first c
some c = omega (arith, c.if-first-eq0.false)

within : (c : tie.Else-hi-first) → first c ≤ (start c).args.hi
within c = omega (arith, c.if-hi-first.false)

-- what `closest` asks of a range that ends at b
searched : (s : tie.Start) (b : ℕ) → b ≤ s.args.hi → Searched s.args.slot s.args.gap 0 b
searched s b h =
    record { usable = s.requires.1.0.usable; small_extra = s.requires.1.0.small_extra; small = omega (arith, s.requires.1.0.small) }

closest-requires : tie.Need-closest-requires
closest-requires c κs =
    let e = c.before.before in
    let s = start e in
    let a = s.args in
    (s.requires.0, (s.requires.1.0, ((begins_steps (begins e) (some e), within e), plain_covered a.gain (asking s) a.slot a.gap a.hi s.requires.1.1.1 _ a.hi (omega arith))))

returns-then-not-gains : tie.Need-returns-then-not-gains
returns-then-not-gains c =
    let g = c.before.before in
    let e = g.before in
    let s = start e in
    let a = s.args in
    closest_ungained a.gain (asking s) a.slot a.gap a.hi (begins e) (some e) (within e) (sym g.gains.ensures ∙ not-true _ c.if-not-gains.true-raw) c.closest.ensures

-- past the third test some length gains
gained : (c : tie.Else-not-gains) → gains_some (start c.before.before).args.gain ≡ true
gained c = sym c.gains.ensures ∙ not-false _ c.if-not-gains.false-raw

gain-steps : (c : tie.Else-not-gains) → let s = start c.before.before in steps (asking s) s.args.gain.from ≡ true
gain-steps c =
    let s = start c.before.before in
    from_steps s.args.loads.now s.args.n s.requires.0 s.requires.1.1.0
    (gains_there (loads_of s.args.loads.now s.args.n) s.requires.1.1.0 (gained c))

closest_gained-late-requires : tie.Need-closest_gained-late-requires
closest_gained-late-requires c κs =
    let s = start c.before.before in
    (s.requires.0, (s.requires.1.0, ((s.requires.1.1.0, gained c), s.requires.1.1.1)))

-- the closest from the gain on
late-at : (c : tie.After-closest_gained-late) → let s = start c.before.before.before in let a = s.args in
    LeastFrom (steps (gaining a.gain (asking s))) (slack_past (gaining a.gain (asking s)) a.slot a.gap) a.gain.from a.hi c.closest_gained-late.result
late-at c =
    let e = c.before in
    let t = e.before.before in
    let s = start t in
    let a = s.args in
    late_least a.gain (asking s) a.slot a.gap a.hi (begins t) (some t) s.requires.1.1.0.due (gain-steps e) (gained e) s.requires.1.1.1 c.closest_gained-late.ensures

returns-then-none_before : tie.Need-returns-then-none_before
returns-then-none_before c =
    let e = c.before.before in
    let t = e.before.before in
    let s = start t in
    let a = s.args in
    let alone : a.gain.from ≤ first t = omega (arith, c.if-none_before.true) in
    late_alone a.gain (asking s) a.slot a.gap a.hi (begins t) (some t) s.requires.1.1.0.due (gain-steps e) (gained e) s.requires.1.1.1 c.closest_gained-late.ensures alone

-- past the fourth something is asked before the gain
before-gain : (c : tie.Else-none_before) → let t = c.before.before.before.before in first t < (start t).args.gain.from
before-gain c = omega (arith, c.if-none_before.false)

overflow_sub-from : tie.Need-overflow_sub-from
overflow_sub-from c = omega (arith, before-gain c)

-- the gain's ends lie within hi
inside : (c : tie.Else-not-gains) → (start c.before.before).args.gain.from ≤ (start c.before.before).args.hi
inside c =
    let s = start c.before.before in
    omega (arith, (gains_somewhere s.args.gain (gained c)).1, s.requires.1.1.0.due)

closest-early-requires : tie.Need-closest-early-requires
closest-early-requires c κs =
    let e = c.before.before in
    let t = e.before.before in
    let s = start t in
    let a = s.args in
    (s.requires.0, (searched s _ (omega (arith, inside e)), ((begins_steps (begins t) (some t), omega (arith, before-gain c)), plain_covered a.gain (asking s) a.slot a.gap a.hi s.requires.1.1.1 _ _ (omega (arith, inside e)))))

-- the closest before it
early-at : (c : tie.After-closest-early) → let t = c.before.before.before.before.before in let s = start t in let a = s.args in
    LeastFrom (steps (asking s)) (slack_past (asking s) a.slot a.gap) (first t) (a.gain.from - 1) c.closest-early.result
early-at c =
    let l = c.before.before in
    let e = l.before in
    let t = e.before.before in
    let s = start t in
    let a = s.args in
    early_plain a.gain (asking s) a.slot a.gap a.hi (begins t) (some t) s.requires.1.1.0.due (gain-steps e) (gained e) s.requires.1.1.1 l.closest_gained-late.ensures (before-gain c.before) c.closest-early.ensures

-- what is asked without the gain is met
met_at : (s : tie.Start) (x : ℕ) → 1 ≤ x → x ≤ s.args.hi → asking s x ≤ supply_past s.args.slot s.args.gap x
met_at s x h g =
    let a = s.args in
    plain_met a.gain (asking s) a.slot a.gap a.hi s.requires.1.1.1 x h g

spare-requires : tie.Need-spare-requires
spare-requires c κs =
    let e = c.before.before.before in
    let t = e.before.before in
    let s = start t in
    let early = early-at c in
    let low : c.closest-early.result ≤ s.args.hi = omega (arith, early.within, inside e) in
    (s.requires.0, (searched s c.closest-early.result low, met_at s c.closest-early.result (omega (arith, early.begins, some t)) low))

overflow_add-room : tie.Need-overflow_add-room
unfolding slack_past
overflow_add-room c =
    let p = c.before.before in
    let e = p.before.before.before in
    let s = start e.before.before in
    let gained : c.at.result ≤ s.args.gain.extra = rw c.at.ensures (gain_most _ _) in
    omega (
      arith,
      c.spare.ensures,
      (early-at p).within,
      inside e,
      s.requires.1.0.small,
      s.requires.1.1.0.small_extra,
      supply_within s.args.slot s.args.gap p.closest-early.result,
    )

spare-requires-2 : tie.Need-spare-requires-2
spare-requires-2 c κs =
    let l = c.before.before.before.before in
    let t = l.before.before.before in
    let s = start t in
    let late = late-at l in
    (s.requires.0, (searched s l.closest_gained-late.result late.within, met_at s l.closest_gained-late.result (omega (arith, late.begins, before-gain c.before.before.before)) late.within))

-- what the two have to spare decides
module _ (c : tie.After-spare-2) where
  abbrev earlier : tie.After-closest-early
  earlier = c.before.before.before

  abbrev later : tie.After-closest_gained-late
  later = earlier.before.before

  abbrev past : tie.Else-not-gains
  past = later.before

  abbrev tested : tie.Else-hi-first
  tested = past.before.before

  room : c.spare.result + c.at.result ≡ c.spare.result + gain_at (start tested).args.gain later.closest_gained-late.result
  room = ap (λ (x : ℕ). c.spare.result + x) c.at.ensures

returns-then-spare-room : tie.Need-returns-then-spare-room
returns-then-spare-room c =
    let p = c.before in
    let e = past p in
    let t = tested p in
    let s = start t in
    let a = s.args in
    late_closest a.gain (asking s) a.slot a.gap a.hi (begins t) (some t) s.requires.1.1.0.due (gain-steps e) (gained e) s.requires.1.1.1 (later p).closest_gained-late.ensures
    (before-gain (earlier p).before) (earlier p).closest-early.ensures p.spare-2.ensures p.spare.ensures (omega (arith, c.if-spare-room.true, room p))

returns : tie.Need-returns
returns c =
    let p = c.before in
    let e = past p in
    let t = tested p in
    let s = start t in
    let a = s.args in
    early_closest a.gain (asking s) a.slot a.gap a.hi (begins t) (some t) s.requires.1.1.0.due (gain-steps e) (gained e) s.requires.1.1.1 (later p).closest_gained-late.ensures
    (before-gain (earlier p).before) (earlier p).closest-early.ensures p.spare-2.ensures p.spare.ensures (omega (arith, c.if-spare-room.false, room p))

pub closest_of_spec : {M : Type 1} → statement M
closest_of_spec =
    tie.close
    (tie.spec
    first_asked-first-requires
    returns-then-first-eq0
    returns-then-hi-first
    (λ c κs. search rules)
    closest-requires
    returns-then-not-gains
    closest_gained-late-requires
    returns-then-none_before
    overflow_sub-from
    closest-early-requires
    spare-requires
    (λ c κs. search rules)
    overflow_add-room
    spare-requires-2
    returns-then-spare-room
    returns)
