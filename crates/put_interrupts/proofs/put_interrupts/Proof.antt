-- The 07 lines of the interrupts' figures are the lines of the interrupts.
-- Assumes nothing.
use Prim.Native.Nat.{ℕ, ◌≤◌}
use mathlib.Core.List.{List}
use mathlib.Core.Path.{◌≡◌, ◌∙◌, ap}
use native.Mathlib.Omega.{arith}
use borrow.Author.Rules.{rules}
use lib.ListN.{length}
use Rattle.digits.specs.Stored.{stored}
use Rattle.frames.specs.Table.{widths_of}
use Rattle.frames.specs.declared.table.Frame.{Frame}
use Rattle.framelines.specs.Lines.{lines_of}
use Rattle.framelines.proofs.EachLaws.{figures_lines, figures_length}
use Rattle.tasks.specs.Set.{most_interrupts, zero_interrupt}
use Rattle.tasks.specs.Values.{interrupt_values}
use Rattle.optionallines.specs.Lines.{most_figures}
use Rattle.optionallines.proofs.OptionalLaws.{interrupt_sized}
use Rattle.put_interrupts.proofs.put_interrupts.Statement.{statement}
use Rattle.put_interrupts.proofs.put_interrupts.Tie as tie

fits : (s : tie.Start) → s.args.interrupts.count ≤ length s.args.interrupts.each
fits s =
    let full : length s.args.interrupts.each ≡ most_interrupts = s.well_formed.1.1.0.1.1.1.0.1.0.1 in
    omega (arith, full, s.requires.0)

put_lines-requires : tie.Need-put_lines-requires
unfolding widths_of
put_lines-requires c κs =
    let d = c.before.before in
    let is = d.args.interrupts in (
      rw d.interrupt_figures-values.ensures (omega (arith, d.requires.0, figures_length Frame.Interrupt interrupt_values zero_interrupt is.each interrupt_sized most_figures is.count (omega (arith, d.requires.0)))),
      omega (arith, d.requires.1),
    )

returns : tie.Need-returns
returns c =
    let lines = c.before.before in
    let d = lines.before.before.before in
    let s = d.before.before in
    let is = s.args.interrupts in
    lines.put_lines.ensures
    ∙ ap (stored s.args.out.now s.args.at)
    (ap (λ (vs : List ℕ). lines_of Frame.Interrupt vs is.count) d.interrupt_figures-values.ensures
    ∙ figures_lines Frame.Interrupt interrupt_values zero_interrupt is.each interrupt_sized most_figures is.count (fits s))

pub put_interrupts_spec : {M : Type 1} → statement M
put_interrupts_spec =
    tie.close
    (tie.spec
    (λ c κs. search rules)
    (λ c. search rules)
    put_lines-requires
    (λ c. search rules)
    returns)
