-- `make` meets its contract: the set's servers are laid out, or the refusal is handed on.
-- Assumes nothing.
use Rattle.std.specs.Prelude.{Ok}
use mathlib.Core.Path.{◌≡◌, sym, ◌∙◌}
use borrow.Author.Rules.{rules}
use Rattle.planner.specs.Planner.{plan_outcome}
use Rattle.planner.proofs.Made.{outcome_clear, plan_done}
use Rattle.settling.specs.Settled.{settled_of}
use Rattle.settling.proofs.RowsLaws.{rows_clear}
use Rattle.settling.proofs.SettledLaws.{settled_rows, settled_outcome, settled_servers, plan_refused}
use Rattle.planner_code.proofs.make.Statement.{statement}
use Rattle.planner_code.proofs.make.Tie as tie

settle-made-requires : tie.Need-settle-made-requires
settle-made-requires c κs = record { told = λ H e. rows_clear _ (sym c.rows_of-rows.ensures ∙ e) }

-- the set was settled
module _ (c : tie.After-settle-made) where
  made : c.settle-made.result ≡ settled_of c.args.set
  made = settled_rows _ c.rows_of-rows.ensures c.settle-made.ensures

returns-in-Err : tie.Need-returns-in-Err
returns-in-Err c =
    c.refused.ensures ∙ plan_refused _ (sym (settled_outcome _ (made c.before.before)) ∙ c.in-Err.is)

module _ (c : tie.In_default) where
  done : plan_outcome c.args.set ≡ Ok tt
  done = sym (settled_outcome _ (made c.before)) ∙ c.in_default.is

plan_of-requires : tie.Need-plan_of-requires
plan_of-requires c κs = ((outcome_clear _ (done c.before)).0, settled_servers _ (made c.before.before) c.in_default.is)

returns : tie.Need-returns
returns c =
    let clear = outcome_clear _ (done c.before.before) in
    plan_done _ clear.0 clear.1 c.plan_of.ensures

pub make_spec : {M : Type 1} → statement M
make_spec =
    tie.close
    (tie.spec
    (λ c κs. search rules)
    settle-made-requires
    (λ c. search rules)
    (λ c κs. search rules)
    returns-in-Err
    (λ c. search rules)
    plan_of-requires
    returns)
