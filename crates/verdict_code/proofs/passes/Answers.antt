-- `passes` meets its contract: the gain that it hands on is the loads' own. Assumes nothing.
use Prim.Native.Nat.{ℕ}
use mathlib.Core.Path.{ap, ◌∙◌}
use native.Mathlib.Omega.{arith}
use Rattle.demand.specs.Load.{loads_of}
use Rattle.interrupting.specs.Interrupts.{asked}
use Rattle.masking.specs.declared.Gain.{Gain}
use Rattle.masking.specs.Masking.{gaining}
use Rattle.masking.proofs.OwnLaws.{own_gains}
use Rattle.verdict.specs.Verdict.{passing}
use Rattle.verdict_code.proofs.passes.Goals as goal

pub passes_gaining-requires-clause-gains : goal.passes_gaining-requires-clause-gains
passes_gaining-requires-clause-gains c =
    let m = c.requires.maskable in
    own_gains _ (loads_of c.args.loads.now c.args.n) c.gain_of-own.ensures (record { masked_small = omega (arith, m.masked_small); due = m.due })

pub returns : goal.returns
returns c =
    let a = c.args in
    c.passes_gaining.ensures ∙
    ap (λ (g : ℕ → ℕ). passing g a.horizon a.slot a.loss a.reserve) (ap (λ (k : Gain). gaining k (asked a.loads.now a.n)) c.gain_of-own.ensures)
