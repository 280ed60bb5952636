-- `record_of` meets its contract: the plan's placement, reserves and cache costs are the set's.
-- Assumes nothing.
use borrow.Author.Rules.{rules}
use native.Mathlib.Omega.{arith}
use mathlib.Core.Path.{◌≡◌, sym, ◌∙◌}
use lib.ListN.{length}
use Rattle.tasks.specs.Set.{most_tasks}
use Rattle.planner.proofs.Made.{count_most}
use Rattle.plancheck.proofs.Checked.{of_set}
use Rattle.planserver.proofs.Judging.{row_laid, row_server}
use Rattle.record_of.proofs.record_of.Statement.{statement}
use Rattle.record_of.proofs.record_of.Tie as tie

-- a set's tasks have their places
full : (s : tie.Start) → length s.args.set.tasks ≡ most_tasks
full s = s.well_formed.0.1.1.1.1.0.1.0.1

-- so have a plan's servers
room : (s : tie.Start) → length s.args.plan.server ≡ most_tasks
room s = s.well_formed.1.0.1.1.1.1.1.1.1.0.1.0.1

-- and its placement
placed : (s : tie.Start) → length s.args.plan.placement ≡ most_tasks
placed s = s.well_formed.1.0.1.1.1.1.1.1.1.1.0.1.0.1

slice_bounds-server_of-end : tie.Need-slice_bounds-server_of-end
slice_bounds-server_of-end c = sym (placed c.before.before.before.before)

server_of-requires : tie.Need-server_of-requires
server_of-requires c κs =
    let rows = c.before.before.before in
    let s = rows.before.before.before in
    let a = s.args in
    let few = count_most a.set (full s) (of_set a.set (full s) a.plan s.requires.0).clear in
    let laid = row_laid a.set (full s) a.plan s.requires.0 a.server s.requires.1 (room s) rows.reserves-reserve.ensures in
    ((omega (arith, few, placed s), few), (laid, omega (arith, laid.0.few, rows.caches-cache.type_inv)))

returns : tie.Need-returns
returns c =
    let rows = c.before.before.before.before in
    let s = rows.before.before.before in
    let a = s.args in
    c.server_of.ensures ∙ row_server a.set (full s) a.plan s.requires.0 a.server s.requires.1 rows.caches-cache.ensures rows.reserves-reserve.ensures

pub record_of_spec : {M : Type 1} → statement M
record_of_spec =
    tie.close
    (tie.spec
    (λ c κs. search rules)
    (λ c κs. search rules)
    slice_bounds-server_of-end
    (λ c. search rules)
    (λ c. search rules)
    server_of-requires
    returns)
