-- `probe_closest` meets its contract: the gain that it hands on is the loads' own. Assumes nothing.
use Prim.Native.Nat.{ℕ}
use mathlib.Core.Path.{ap, subst, sym, ◌∙◌}
use borrow.Author.Rules.{rules}
use Rattle.demand.specs.Load.{loads_of}
use Rattle.interrupting.specs.Interrupts.{asked}
use Rattle.search.specs.Search.{NoneIn, short}
use Rattle.steps.specs.Stepping.{steps}
use Rattle.slack.specs.Least.{least_up_to}
use Rattle.slack.specs.Slack.{slack_past}
use Rattle.masking.specs.declared.Gain.{Gain}
use Rattle.masking.specs.Masking.{gaining}
use Rattle.masking.proofs.OwnLaws.{own_gains}
use Rattle.probe.proofs.probe_closest.Statement.{statement}
use Rattle.probe.proofs.probe_closest.Tie as tie

closest_of-requires : tie.Need-closest_of-requires
closest_of-requires c κs =
    let a = c.args in
    let ls = loads_of a.loads.now a.n in
    let own = own_gains a.masked ls c.gain_of-own.ensures c.requires.1.1.0 in
    let none = subst (λ (g : ℕ → ℕ). NoneIn (short g a.slot a.gap 0) 0 a.hi) (sym (ap (λ (k : Gain). gaining k (asked a.loads.now a.n)) c.gain_of-own.ensures)) c.requires.1.1.1 in
    (c.requires.0, (c.requires.1.0, (own, none)))

returns : tie.Need-returns
returns c =
    let a = c.args in
    c.closest_of.ensures ∙
    ap (λ (g : ℕ → ℕ). least_up_to (steps g) (slack_past g a.slot a.gap) a.hi) (ap (λ (k : Gain). gaining k (asked a.loads.now a.n)) c.gain_of-own.ensures)

pub probe_closest_spec : {M : Type 1} → statement M
probe_closest_spec =
    tie.close
    (tie.spec
    (λ c κs. search rules)
    closest_of-requires
    returns)
