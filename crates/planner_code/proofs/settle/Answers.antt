-- `settle` meets its contract: what rows say is handed on, or the set is placed.
-- Assumes nothing.
use Rattle.refusals.specs.declared.Refusal.{Refusal}
use Rattle.std.specs.Prelude.{Result, ℕ}
use mathlib.Core.Path.{sym, ap, ◌∙◌}
use Rattle.settling.specs.Settled.{settled_by}
use Rattle.planner_code.proofs.settle.Goals as goal

pub placed-requires : goal.placed-requires
placed-requires c = c.requires.told _ c.in-Ok.is

pub returns-in-Err : goal.returns-in-Err
returns-in-Err c =
    c.unsettled.ensures ∙ sym (ap (λ (rows : Result ℕ Refusal). settled_by rows c.args.set) c.in-Err.is)

pub returns-in-Ok : goal.returns-in-Ok
returns-in-Ok c =
    c.placed.ensures ∙ sym (ap (λ (rows : Result ℕ Refusal). settled_by rows c.args.set) c.in-Ok.is)
