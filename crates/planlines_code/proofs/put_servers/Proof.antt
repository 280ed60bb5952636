-- The figures of the lines, and their lines.
-- Assumes nothing.
use Prim.Native.Nat.{ℕ, ◌*◌}
use mathlib.Core.Path.{◌∙◌, ap}
use mathlib.Core.List.{List}
use native.Mathlib.Omega.{arith}
use lib.ListN.{length}
use Rattle.digits.specs.Stored.{stored}
use Rattle.frames.specs.Table.{widths_of}
use Rattle.framelines.specs.Lines.{lines_of}
use Rattle.frames.specs.declared.table.Frame.{Frame}
use Rattle.tasks.specs.Set.{most_tasks}
use Rattle.planfigures.specs.Figures.{server_figures}
use Rattle.planlines.specs.Line.{server_line}
use Rattle.framelines.proofs.FillLaws.{filled_length, lines_filled}
use Rattle.planfigures.proofs.FigureLaws.{server_each}
use borrow.Author.Rules.{rules}
use Rattle.planlines_code.proofs.put_servers.Statement.{statement}
use Rattle.planlines_code.proofs.put_servers.Tie as tie

put_lines-requires : tie.Need-put_lines-requires
unfolding widths_of
put_lines-requires c κs =
    let a = c.args in
    (omega (arith, c.requires.0, ap length c.server_values-values.ensures, filled_length (server_figures a.plan.server a.plan.slot) 4 (server_each a.plan.server a.plan.slot) (4 * most_tasks) a.plan.servers (omega (arith, c.requires.0))), c.requires.1)

returns : tie.Need-returns
unfolding widths_of server_line
returns c =
    let a = c.args in
    c.put_lines.ensures ∙ ap (stored a.out.now a.at)
    (ap (λ (v : List ℕ). lines_of Frame.Server v a.plan.servers) c.server_values-values.ensures ∙ lines_filled Frame.Server (server_figures a.plan.server a.plan.slot) (server_each a.plan.server a.plan.slot) (4 * most_tasks) a.plan.servers)

pub put_servers_spec : {M : Type 1} → statement M
put_servers_spec =
    tie.close
    (tie.spec
    (λ c κs. search rules)
    (λ c. search rules)
    put_lines-requires
    (λ c. search rules)
    returns)
