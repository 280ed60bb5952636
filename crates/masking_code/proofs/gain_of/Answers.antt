-- `gain_of` meets its contract: the first load's deadline is the smallest, each one more is compared with it, and with the largest.
-- Assumes nothing.
use Prim.Native.Nat.{ℕ, ◌+◌}
use mathlib.Core.Path.{◌≡◌, refl, ap, ap₂, ◌∙◌}
use native.Mathlib.Omega.{arith}
use Rattle.demand.specs.Load.{each, load_at, loads_of}
use Rattle.demand.proofs.Demand.{each_next, each_length}
use Rattle.masking.specs.Masking.{soonest, latest, gain_of}
use Rattle.masking.proofs.EndsLaws.{soonest_alone, soonest_more, latest_next}
use Rattle.masking_code.proofs.gain_of.Goals as goal
use Rattle.masking_code.proofs.gain_of.Goals.{Joined-begins, then-begins, else-begins}

pub loop-i-init : goal.loop-i-init
unfolding each soonest latest
loop-i-init c = (refl, refl)

pub overflow_mul-d : goal.overflow_mul-d
overflow_mul-d c = omega (arith, c.requires.few)

pub overflow_add-d : goal.overflow_add-d
overflow_add-d c = omega (arith, c.requires.few)

pub bounds-loads-i : goal.bounds-loads-i
bounds-loads-i c = omega (arith, c.requires.there)

-- the smallest of one load more
from_next : (c : Joined-begins) → c.if-begins.from ≡ soonest (loads_of c.args.loads.now (c.loop-i.i + 1))
from_next c =
    let numbers = c.args.loads.now in
    let i = c.loop-i.i in
    let l = load_at numbers i in
    let long = each_length (load_at numbers) i in
    rw (each_next (load_at numbers) i)
    (elim c.if-begins.branch [
      | then-begins w ↦ omega (arith, w.from-is, soonest_alone (loads_of numbers i) l (omega (arith, w.if-begins.true, long)))
      | else-begins w ↦ omega (arith, w.from-is, c.loop-i.invariant.0, soonest_more (loads_of numbers i) l (omega (arith, w.if-begins.false, long)))
    ])

pub loop-i-preserved : goal.loop-i-preserved
loop-i-preserved c =
    let numbers = c.args.loads.now in
    let i = c.loop-i.i in (
      from_next (goal.at.loop-i-preserved c).Joined-begins,
      rw (each_next (load_at numbers) i) (omega (arith, c.loop-i.invariant.1, latest_next (loads_of numbers i) (load_at numbers i))),
    )

pub returns : goal.returns
unfolding gain_of
returns c =
    let a = c.args in
    let e : c.loop-i.i ≡ a.n = omega arith in
    ap₂ (λ (f u : ℕ). record { extra = a.masked; from = f; until = u }) c.loop-i.invariant.0 c.loop-i.invariant.1 ∙
    ap (λ (i : ℕ). gain_of a.masked (loads_of a.loads.now i)) e
