-- `plan_of` meets its contract: the servers can be laid out, and that is the set's plan.
-- Assumes nothing.
use mathlib.Core.Path.{◌≡◌, ◌∙◌}
use borrow.Author.Rules.{rules}
use lib.ListN.{length}
use Rattle.tasks.specs.Set.{most_tasks}
use Rattle.planner.proofs.Made.{set_layable, set_laid}
use Rattle.planned.proofs.plan_of.Statement.{statement}
use Rattle.planned.proofs.plan_of.Tie as tie

-- a set's tasks have their places
full : (c : tie.Start) → length c.args.set.tasks ≡ most_tasks
full c = c.well_formed.0.1.1.1.1.0.1.0.1

lay_out-requires : tie.Need-lay_out-requires
lay_out-requires c κs =
    let s = c.before.before in
    set_layable s.args.set (full s) s.requires.0 s.requires.1

returns : tie.Need-returns
returns c =
    let s = c.before.before.before in
    c.lay_out.ensures ∙ set_laid s.args.set (full s) s.requires.0 s.requires.1

pub plan_of_spec : {M : Type 1} → statement M
plan_of_spec =
    tie.close
    (tie.spec
    (λ c. search rules)
    lay_out-requires
    returns)
