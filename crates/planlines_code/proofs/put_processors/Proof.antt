-- The figures of the lines, and their lines.
-- Assumes nothing.
use Prim.Native.Nat.{ℕ, ◌*◌}
use mathlib.Core.Path.{◌∙◌, ap}
use mathlib.Core.List.{List}
use native.Mathlib.Omega.{arith}
use lib.ListN.{length}
use Rattle.digits.specs.Stored.{stored}
use Rattle.frames.specs.Table.{widths_of}
use Rattle.framelines.specs.Lines.{lines_of}
use Rattle.frames.specs.declared.table.Frame.{Frame}
use Rattle.tasks.specs.Set.{most_processors}
use Rattle.planfigures.specs.Figures.{processor_figures}
use Rattle.planlines.specs.Line.{processor_line}
use Rattle.framelines.proofs.FillLaws.{filled_length, lines_filled}
use Rattle.planfigures.proofs.FigureLaws.{processor_each}
use borrow.Author.Rules.{rules}
use Rattle.planlines_code.proofs.put_processors.Statement.{statement}
use Rattle.planlines_code.proofs.put_processors.Tie as tie

put_lines-requires : tie.Need-put_lines-requires
unfolding widths_of
put_lines-requires c κs =
    let a = c.args in
    (omega (arith, c.requires.0, ap length c.processor_values-values.ensures, filled_length (processor_figures a.plan.first) 3 (processor_each a.plan.first) (3 * most_processors) a.n (omega (arith, c.requires.0))), c.requires.1)

returns : tie.Need-returns
unfolding widths_of processor_line
returns c =
    let a = c.args in
    c.put_lines.ensures ∙ ap (stored a.out.now a.at)
    (ap (λ (v : List ℕ). lines_of Frame.Processor v a.n) c.processor_values-values.ensures ∙ lines_filled Frame.Processor (processor_figures a.plan.first) (processor_each a.plan.first) (3 * most_processors) a.n)

pub put_processors_spec : {M : Type 1} → statement M
put_processors_spec =
    tie.close
    (tie.spec
    (λ c κs. search rules)
    (λ c. search rules)
    put_lines-requires
    (λ c. search rules)
    returns)
