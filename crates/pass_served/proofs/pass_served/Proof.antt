-- A server that is there is judged by its record; another is refused.
-- Assumes nothing.
use borrow.Author.Rules.{rules}
use mathlib.Core.Path.{◌≡◌, refl, ◌∙◌}
use mathlib.Core.Bool.{true}
use native.Mathlib.Omega.{arith}
use Prim.Native.Nat.{◌≤◌}
use lib.ListN.{length}
use Rattle.tasks.specs.declared.set.TaskSet.{TaskSet}
use Rattle.tasks.specs.Set.{most_tasks}
use Rattle.layout.specs.Made.{plan_made}
use Rattle.layout.specs.Layable.{Layable}
use Rattle.planner.specs.Planner.{Placeable}
use Rattle.planner.proofs.Made.{outcome_clear, set_layable}
use Rattle.plancheck.specs.Makes.{makes}
use Rattle.filerows.proofs.FileLaws.{set_makes}
use Rattle.planserver.proofs.Judging.{own_recorded}
use Rattle.doespass.proofs.PassLaws.{pass_absent, pass_there}
use Rattle.pass_served.proofs.RowsLaws.{count_is, row_server, is_there, is_none, none_first}
use Rattle.pass_served.proofs.pass_served.Statement.{statement}
use Rattle.pass_served.proofs.pass_served.Tie as tie

-- where the function starts
module _ (s : tie.Start) where
  abbrev set : TaskSet
  set = s.args.set

  -- a set's tasks have their places
  full : length set.tasks ≡ most_tasks
  full = s.well_formed.0.1.1.1.1.0.1.0.1

  clear : Placeable set
  clear = (outcome_clear set s.requires.0).0

  made : makes set (plan_made set) ≡ true
  made = set_makes set s.requires.0 refl

  layable : Layable s.args.servers set.count set.header.slot
  layable = set_layable set full clear s.requires.1

  -- the placement and the cache costs have their places
  placed : length s.args.servers.placement ≡ most_tasks
  placed = s.well_formed.1.0.1.1.1.0.1.0.1

  costed : length s.args.servers.cache ≡ most_tasks
  costed = s.well_formed.1.0.1.1.1.1.0.1.0.1

returns-then-before_first : tie.Need-returns-then-before_first
returns-then-before_first c =
    let s = c.before.before in
    let a = s.args in
    c.refused_pass.ensures ∙ pass_absent a.set (plan_made a.set) (made s) a.server a.reserve (none_first a.set a.server (omega (arith, c.if-before_first.true)))

returns-then-count-server : tie.Need-returns-then-count-server
returns-then-count-server c =
    let s = c.before.before.before in
    let a = s.args in
    c.refused_pass-then-count-server.ensures
    ∙ pass_absent a.set (plan_made a.set) (made s) a.server a.reserve (is_none a.set (full s) (clear s) s.requires.1 a.server (omega (arith, c.if-count-server.true)))

-- where the server is there
module _ (c : tie.Else-count-server) where
  abbrev start : tie.Start
  start = c.before.before

  first : 1 ≤ start.args.server
  first = omega (arith, c.if-before_first.false)

  last : start.args.server ≤ start.args.servers.count
  last = omega (arith, c.if-count-server.false)

server_of-own-requires : tie.Need-server_of-own-requires
server_of-own-requires c κs =
    let e = c.before.before.before.before.before.before.before.before in
    let s = start e in
    let laid = layable s in (
      (omega (arith, placed s, laid.tasks_few), laid.tasks_few),
      ((laid.laid, first e, last e), omega (arith, costed s, laid.servers_few)),
    )

-- where its record is made
module _ (c : tie.After-server_of-own) where
  abbrev there : tie.Else-count-server
  there = c.before.before.before.before.before.before.before.before.before

pass_own-requires : tie.Need-pass_own-requires
pass_own-requires c κs =
    let e = there c in
    let s = start e in
    let a = s.args in
    own_recorded a.set (full s) (clear s).clear a.server
    (c.server_of-own.ensures ∙ row_server a.set (full s) (clear s) s.requires.1 a.server)
    (first e) (omega (arith, last e, count_is a.set (full s) (clear s) s.requires.1))

returns : tie.Need-returns
returns c =
    let e = there c.before in
    let s = start e in
    let a = s.args in
    c.pass_own.ensures
    ∙ pass_there a.set (plan_made a.set) (made s) (full s) a.server a.reserve
    (is_there a.set (full s) (clear s) s.requires.1 a.server (first e) (last e))
    (c.server_of-own.ensures ∙ row_server a.set (full s) (clear s) s.requires.1 a.server)

pub pass_served_spec : {M : Type 1} → statement M
pass_served_spec =
    tie.close
    (tie.spec
    (λ c κs. search rules)
    returns-then-before_first
    (λ c κs. search rules)
    returns-then-count-server
    (λ c. search rules)
    (λ c. search rules)
    (λ c. search rules)
    (λ c. search rules)
    server_of-own-requires
    pass_own-requires
    returns)
