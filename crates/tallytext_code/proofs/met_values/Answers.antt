-- The loop's invariant: the code's row holds the numbers told, and the figures of the first `k` of them are filled in.
-- Assumes nothing.
use Prim.Native.Nat.{◌*◌}
use mathlib.Core.Path.{◌∙◌, ap}
use native.Mathlib.Omega.{arith}
use Rattle.digits.specs.Stored.{stored}
use Rattle.frames.specs.Table.{widths_of, fields_in}
use Rattle.frames.specs.declared.table.Frame.{Frame}
use Rattle.framelines.specs.Each.{each_figures}
use Rattle.framelines.proofs.EachLaws.{figures_each, figures_at_lem}
use Rattle.framelines.proofs.FillLaws.{filled_none, filled_next, filled_all}
use Rattle.tallytext.specs.Text.{numbers_told, met_figures}
use Rattle.tallytext.proofs.ReportLaws.{met_sized, told_placed}
use Rattle.tallytext_code.proofs.met_values.Goals as goal

pub loop-k-init : goal.loop-k-init
loop-k-init c = filled_none _ _ _

pub offset_bounds-tally-number : goal.offset_bounds-tally-number
offset_bounds-tally-number c = omega (arith, told_placed c.loop-k.k)

pub bounds-tally-number : goal.bounds-tally-number
bounds-tally-number c = told_placed c.loop-k.k

pub store-requires : goal.store-requires
store-requires c = omega (arith, c.loop-k.invariant.same)

pub loop-k-preserved : goal.loop-k-preserved
unfolding widths_of
loop-k-preserved c =
    let l = c.loop-k in
    let t = c.args.tally in
    let step = c.store.ensures ∙ ap (stored l.values (2 * l.k)) (figures_at_lem Frame.Met (met_figures t) 0 numbers_told l.k) in
    filled_next (each_figures (met_figures t) 0 numbers_told) (fields_in Frame.Met) (figures_each Frame.Met (met_figures t) 0 numbers_told (met_sized t)) (omega arith) l.invariant c.loop-k-test.true step c.store.auto.out

pub returns : goal.returns
unfolding widths_of
returns c =
    let t = c.args.tally in
    filled_all (each_figures (met_figures t) 0 numbers_told) (fields_in Frame.Met) (figures_each Frame.Met (met_figures t) 0 numbers_told (met_sized t)) (omega arith) c.loop-k.invariant c.loop-k-test.false
