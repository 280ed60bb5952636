-- `smallest_reserve` meets its contract. The loop's invariant: no reserve up to `lo` is enough; `hi` is, or it is the slot.
-- The measure is the distance between them. Assumes nothing.
use Prim.Native.Nat.{ℕ, ◌+◌, ◌-◌, ◌/◌}
use mathlib.Core.Path.{◌≡◌, ap, ◌∙◌}
use borrow.Author.Rules.{rules}
use native.Mathlib.Omega.{arith}
use Rattle.demand.specs.Load.{loads_of}
use Rattle.interrupting.specs.Interrupts.{asked}
use Rattle.masking.specs.declared.Gain.{Gain}
use Rattle.masking.specs.Masking.{gaining, gain_of}
use Rattle.masking.proofs.OwnLaws.{own_gains}
use Rattle.verdict.specs.Verdict.{passing}
use Rattle.reserving.proofs.Sizing.{Sized, sizing_starts, sizing_ring, sizing_down, sizing_up, sizing_ends}
use Rattle.reserving.proofs.smallest_reserve.Statement.{statement}
use Rattle.reserving.proofs.smallest_reserve.Tie as tie

abbrev invariant-loop-lo : tie.invariant-loop-lo
invariant-loop-lo loads n masked slot loss horizon gain lo₀ hi₀ lo hi = Sized (gaining (gain_of masked (loads_of loads n)) (asked loads n)) horizon slot loss lo hi

abbrev decreases-loop-lo : tie.decreases-loop-lo
decreases-loop-lo loads n masked slot loss horizon gain lo₀ hi₀ lo hi = hi - lo

loop-lo-init : tie.Need-loop-lo-init invariant-loop-lo decreases-loop-lo
loop-lo-init c = sizing_starts c.requires.1.0.loss_small

overflow_add-lo : tie.Need-overflow_add-lo invariant-loop-lo decreases-loop-lo
overflow_add-lo c = omega arith

overflow_sub-mid : tie.Need-overflow_sub-mid invariant-loop-lo decreases-loop-lo
overflow_sub-mid c = omega arith

overflow_add-mid : tie.Need-overflow_add-mid invariant-loop-lo decreases-loop-lo
overflow_add-mid c = omega arith

passes_gaining-requires : tie.Need-passes_gaining-requires invariant-loop-lo decreases-loop-lo
passes_gaining-requires c κs =
    let g = c.before.before in
    let a = g.args in
    let l = c.loop-lo in
    let t = g.requires.1.0 in
    let ring = sizing_ring l.invariant (l.lo + (l.hi - l.lo) / 2) (omega arith) (omega arith) in
    let m = g.requires.1.1 in
    let own = own_gains _ (loads_of a.loads.now a.n) g.gain_of-gain.ensures (record { masked_small = omega (arith, m.masked_small); due = m.due }) in
    (g.requires.0, (record { slot_some = t.slot_some; slot_small = t.slot_small; loss_small = t.loss_small; horizon_small = omega (arith, t) }, (ring, own)))

-- what the middle answers is said of the loads' own gain
middle : (c : tie.After-passes_gaining invariant-loop-lo decreases-loop-lo) →
    let l = c.loop-lo in
    let a = c.args in
    c.passes_gaining.result ≡ passing (gaining (gain_of a.masked (loads_of a.loads.now a.n)) (asked a.loads.now a.n)) a.horizon a.slot a.loss (l.lo + (l.hi - l.lo) / 2)
middle c =
    let l = c.loop-lo in
    let a = c.args in
    c.passes_gaining.ensures ∙
    ap (λ (f : ℕ → ℕ). passing f a.horizon a.slot a.loss (l.lo + (l.hi - l.lo) / 2)) (ap (λ (k : Gain). gaining k (asked a.loads.now a.n)) c.gain_of-gain.ensures)

loop-lo-smaller-then-passes_gaining : tie.Need-loop-lo-smaller-then-passes_gaining invariant-loop-lo decreases-loop-lo
loop-lo-smaller-then-passes_gaining c = omega arith

loop-lo-preserved-then-passes_gaining : tie.Need-loop-lo-preserved-then-passes_gaining invariant-loop-lo decreases-loop-lo
loop-lo-preserved-then-passes_gaining c =
    let l = c.loop-lo in
    sizing_down l.invariant (l.lo + (l.hi - l.lo) / 2) (omega arith) (omega arith) (middle c.before) c.if-passes_gaining.true

loop-lo-smaller : tie.Need-loop-lo-smaller invariant-loop-lo decreases-loop-lo
loop-lo-smaller c = omega arith

loop-lo-preserved : tie.Need-loop-lo-preserved invariant-loop-lo decreases-loop-lo
loop-lo-preserved c =
    let l = c.loop-lo in
    sizing_up l.invariant (l.lo + (l.hi - l.lo) / 2) (omega arith) (omega arith) (omega arith) (middle c.before) c.if-passes_gaining.false

returns : tie.Need-returns invariant-loop-lo decreases-loop-lo
returns c = sizing_ends c.loop-lo.invariant (omega (arith, c.loop-lo-test.false))

pub smallest_reserve_spec : {M : Type 1} → statement M
smallest_reserve_spec =
    tie.close
    (tie.spec
    invariant-loop-lo
    decreases-loop-lo
    (λ c κs. search rules)
    loop-lo-init
    overflow_add-lo
    overflow_sub-mid
    overflow_add-mid
    passes_gaining-requires
    loop-lo-smaller-then-passes_gaining
    loop-lo-preserved-then-passes_gaining
    loop-lo-smaller
    loop-lo-preserved
    returns)
