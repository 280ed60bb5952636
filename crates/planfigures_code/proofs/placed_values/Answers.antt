-- The loop's invariant: the figures of the first `i` lines are filled in.
-- Assumes nothing.
use Prim.Native.Nat.{◌*◌, ◌<◌}
use mathlib.Core.Path.{◌∙◌, ap}
use mathlib.Core.List.{[], ◌∷◌}
use native.Mathlib.Omega.{arith}
use lib.ListN.{get_or, length-take}
use lib.Seq.{get_or-take}
use Rattle.tasks.specs.declared.set.Task.{Task}
use Rattle.tasks.specs.Set.{zero_task}
use Rattle.digits.specs.Stored.{stored}
use Rattle.planfigures.specs.Figures.{placed_figures}
use Rattle.framelines.proofs.FillLaws.{filled_none, filled_next, filled_all}
use Rattle.planfigures.proofs.FigureLaws.{placed_each, placed_at}
use Rattle.planfigures_code.proofs.placed_values.Goals as goal

pub loop-i-init : goal.loop-i-init
loop-i-init c = filled_none _ _ _

pub store-requires : goal.store-requires
store-requires c = omega (arith, c.loop-i.invariant.same)

pub loop-i-preserved : goal.loop-i-preserved
loop-i-preserved c =
    let a = c.args in
    let i = c.loop-i.i in
    let here : i < a.set.count = omega (arith, length-take a.set.count a.set.tasks) in
    let figures = ap (λ (t : Task). t.id ∷ get_or a.placement.now i 0 ∷ []) (get_or-take a.set.count a.set.tasks i zero_task here) ∙ placed_at a.set.tasks a.placement.now i in
    filled_next (placed_figures a.set.tasks a.placement.now) 2 (placed_each a.set.tasks a.placement.now) (omega arith) c.loop-i.invariant here
    (c.store.ensures ∙ ap (stored c.loop-i.values (2 * i)) figures) c.store.auto.out

pub returns : goal.returns
returns c =
    let a = c.args in
    filled_all (placed_figures a.set.tasks a.placement.now) 2 (placed_each a.set.tasks a.placement.now) (omega arith) c.loop-i.invariant
    (omega (arith, length-take a.set.count a.set.tasks))
