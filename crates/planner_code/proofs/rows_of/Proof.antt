-- `rows_of` meets its contract: row 11 first, then rows 5 to 9.
-- Assumes nothing.
use mathlib.Core.Path.{sym, ◌∙◌}
use borrow.Author.Rules.{rules}
use Rattle.taskask.proofs.Carried.{count_within, interrupts_within, ask_count}
use Rattle.settling.proofs.RowsLaws.{rows_asked, rows_charged}
use Rattle.planner_code.proofs.rows_of.Statement.{statement}
use Rattle.planner_code.proofs.rows_of.Tie as tie

returns-then-asks : tie.Need-returns-then-asks
returns-then-asks c = rows_asked _ (sym c.asks.ensures ∙ c.if-asks.true)

charged-requires : tie.Need-charged-requires
charged-requires c κs =
    let counts = ask_count _ (sym c.asks.ensures ∙ c.if-asks.false) in
    ((count_within _ counts).1, interrupts_within _ counts)

returns : tie.Need-returns
returns c = rows_charged _ (sym c.asks.ensures ∙ c.if-asks.false) c.charged.ensures

pub rows_of_spec : {M : Type 1} → statement M
rows_of_spec =
    tie.close
    (tie.spec
    (λ c κs. search rules)
    returns-then-asks
    charged-requires
    returns)
