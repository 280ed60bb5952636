-- The loop's invariant: the figures of the first `k` interrupts are filled in.
-- Assumes nothing.
use Prim.Native.Nat.{◌*◌}
use mathlib.Core.Path.{◌∙◌, ap}
use native.Mathlib.Omega.{arith}
use Rattle.digits.specs.Stored.{stored}
use Rattle.frames.specs.Table.{widths_of, fields_in}
use Rattle.frames.specs.declared.table.Frame.{Frame}
use Rattle.framelines.proofs.FillLaws.{filled_none, filled_next, filled_all}
use Rattle.framelines.proofs.EachLaws.{figures_each, figures_at_lem}
use Rattle.tasks.specs.Set.{zero_interrupt}
use Rattle.tasks.specs.Values.{interrupt_values}
use Rattle.optionallines.specs.Lines.{interrupt_figures}
use Rattle.optionallines.proofs.OptionalLaws.{interrupt_sized}
use Rattle.put_interrupts.proofs.interrupt_figures.Goals as goal

pub loop-k-init : goal.loop-k-init
loop-k-init c = filled_none _ _ _

pub store-requires : goal.store-requires
store-requires c = rw c.interrupt_values-figures.ensures (omega (arith, c.loop-k.invariant.same))

pub loop-k-preserved : goal.loop-k-preserved
unfolding widths_of
loop-k-preserved c =
    let l = c.loop-k in
    let each = c.args.interrupts.each in
    let there = c.interrupt_values-figures.ensures in
    filled_next (interrupt_figures each) (fields_in Frame.Interrupt) (figures_each Frame.Interrupt interrupt_values zero_interrupt each interrupt_sized) (omega arith) l.invariant c.loop-k-test.true
    (c.store.ensures ∙ ap (stored l.values (5 * l.k)) (there ∙ figures_at_lem Frame.Interrupt interrupt_values zero_interrupt each l.k)) c.store.auto.out

pub returns : goal.returns
unfolding widths_of
returns c =
    let each = c.args.interrupts.each in
    filled_all (interrupt_figures each) (fields_in Frame.Interrupt) (figures_each Frame.Interrupt interrupt_values zero_interrupt each interrupt_sized) (omega arith) c.loop-k.invariant c.loop-k-test.false
