-- `probe_none_fails` meets its contract: the gain that it hands on is the loads' own. Assumes nothing.
use Prim.Native.Nat.{ℕ}
use mathlib.Core.Path.{ap, ◌∙◌}
use lib.Dec.{eqb}
use borrow.Author.Rules.{rules}
use native.Mathlib.Omega.{arith}
use Rattle.demand.specs.Load.{loads_of}
use Rattle.interrupting.specs.Interrupts.{asked}
use Rattle.search.specs.Search.{first_up_to, short}
use Rattle.masking.specs.declared.Gain.{Gain}
use Rattle.masking.specs.Masking.{gaining}
use Rattle.masking.proofs.OwnLaws.{own_gains}
use Rattle.probe.proofs.probe_none_fails.Statement.{statement}
use Rattle.probe.proofs.probe_none_fails.Tie as tie

none_fails-requires : tie.Need-none_fails-requires
none_fails-requires c κs =
    let a = c.args in
    let m = c.requires.1.1 in
    let own = own_gains _ (loads_of a.loads.now a.n) c.gain_of-gain.ensures (record { masked_small = omega (arith, m.masked_small); due = m.due }) in
    (c.requires.0, (c.requires.1.0, own))

returns : tie.Need-returns
returns c =
    let a = c.args in
    c.none_fails.ensures ∙
    ap (λ (g : ℕ → ℕ). eqb (first_up_to (short g a.slot a.gap 0) a.hi) 0) (ap (λ (k : Gain). gaining k (asked a.loads.now a.n)) c.gain_of-gain.ensures)

pub probe_none_fails_spec : {M : Type 1} → statement M
probe_none_fails_spec =
    tie.close
    (tie.spec
    (λ c κs. search rules)
    none_fails-requires
    returns)
