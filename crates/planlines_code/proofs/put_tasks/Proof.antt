-- The figures of the lines, and their lines.
-- Assumes nothing.
use Prim.Native.Nat.{ℕ, ◌*◌}
use mathlib.Core.Path.{◌≡◌, ◌∙◌, ap}
use mathlib.Core.List.{List}
use native.Mathlib.Omega.{arith}
use lib.ListN.{length}
use Rattle.digits.specs.Stored.{stored}
use Rattle.frames.specs.Table.{widths_of}
use Rattle.framelines.specs.Lines.{lines_of}
use Rattle.frames.specs.declared.table.Frame.{Frame}
use Rattle.tasks.specs.Set.{most_tasks}
use Rattle.planfigures.specs.Figures.{placed_figures}
use Rattle.planlines.specs.Line.{placed_line}
use Rattle.framelines.proofs.FillLaws.{filled_length, lines_filled}
use Rattle.planfigures.proofs.FigureLaws.{placed_each}
use borrow.Author.Rules.{rules}
use Rattle.planlines_code.proofs.put_tasks.Statement.{statement}
use Rattle.planlines_code.proofs.put_tasks.Tie as tie

-- the rows of a plan have their full length
placement-row : (s : tie.Start) → length s.args.plan.placement ≡ 64
placement-row s = s.well_formed.1.1.1.0.1.1.1.1.1.1.1.1.0.1.0.1

placed_values-values-requires : tie.Need-placed_values-values-requires
placed_values-values-requires c κs =
    let s = c.before.before.before in
    (s.requires.0, omega (arith, s.requires.0, placement-row s))

put_lines-requires : tie.Need-put_lines-requires
unfolding widths_of
put_lines-requires c κs =
    let a = c.args in
    (omega (arith, c.requires.0, ap length c.placed_values-values.ensures, filled_length (placed_figures a.set.tasks a.plan.placement) 2 (placed_each a.set.tasks a.plan.placement) (2 * most_tasks) a.set.count (omega (arith, c.requires.0))), c.requires.1)

returns : tie.Need-returns
unfolding widths_of placed_line
returns c =
    let a = c.args in
    c.put_lines.ensures ∙ ap (stored a.out.now a.at)
    (ap (λ (v : List ℕ). lines_of Frame.Placed v a.set.count) c.placed_values-values.ensures ∙ lines_filled Frame.Placed (placed_figures a.set.tasks a.plan.placement) (placed_each a.set.tasks a.plan.placement) (2 * most_tasks) a.set.count)

pub put_tasks_spec : {M : Type 1} → statement M
put_tasks_spec =
    tie.close
    (tie.spec
    (λ c. search rules)
    placed_values-values-requires
    (λ c. search rules)
    put_lines-requires
    (λ c. search rules)
    returns)
