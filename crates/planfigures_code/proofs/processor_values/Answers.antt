-- The loop's invariant: the figures of the first `i` lines are filled in.
-- Assumes nothing.
use Prim.Native.Nat.{◌+◌, ◌*◌, ◌<◌}
use mathlib.Core.Path.{◌∙◌, ap}
use mathlib.Core.List.{[], ◌∷◌}
use native.Mathlib.Omega.{arith}
use lib.ListN.{length-take}
use lib.Seq.{get_or-take}
use Rattle.ring.specs.declared.cover.Stand.{Stand}
use Rattle.digits.specs.Stored.{stored}
use Rattle.planfigures.specs.Figures.{processor_figures}
use Rattle.framelines.proofs.FillLaws.{filled_none, filled_next, filled_all}
use Rattle.planfigures.proofs.FigureLaws.{processor_each, processor_at}
use Rattle.planfigures_code.proofs.processor_values.Goals as goal

pub loop-i-init : goal.loop-i-init
loop-i-init c = filled_none _ _ _

pub store-requires : goal.store-requires
store-requires c = omega (arith, length-take c.args.n c.args.first, c.loop-i.invariant.same)

pub loop-i-preserved : goal.loop-i-preserved
loop-i-preserved c =
    let a = c.args in
    let i = c.loop-i.i in
    let here : i < a.n = omega (arith, length-take a.n a.first) in
    let figures = ap (λ (s : Stand). (i + 1) ∷ s.server ∷ s.left ∷ []) (get_or-take a.n a.first i (record { server = 0; left = 0 }) here) ∙ processor_at a.first i in
    filled_next (processor_figures a.first) 3 (processor_each a.first) (omega arith) c.loop-i.invariant here
    (c.store.ensures ∙ ap (stored c.loop-i.values (3 * i)) figures) c.store.auto.out

pub returns : goal.returns
returns c =
    let a = c.args in
    filled_all (processor_figures a.first) 3 (processor_each a.first) (omega arith) c.loop-i.invariant (omega (arith, length-take a.n a.first))
