-- A server that is there is judged by its record; another is refused.
-- Assumes nothing.
use borrow.Author.Rules.{rules}
use borrow.Author.Tests.{not-true, not-false}
use mathlib.Core.Path.{◌≡◌, sym, ◌∙◌}
use mathlib.Core.Bool.{true}
use native.Mathlib.Omega.{arith}
use lib.ListN.{length}
use Rattle.tasks.specs.Set.{most_tasks}
use Rattle.named.specs.Named.{is_server}
use Rattle.named.proofs.NamedLaws.{server_within}
use Rattle.plancheck.proofs.Checked.{of_set}
use Rattle.planserver.proofs.Judging.{own_recorded}
use Rattle.doespass.proofs.PassLaws.{pass_absent, pass_there}
use Rattle.pass_made.proofs.pass_made.Statement.{statement}
use Rattle.pass_made.proofs.pass_made.Tie as tie

returns-then-not-is_server : tie.Need-returns-then-not-is_server
returns-then-not-is_server c =
    let a = c.args in
    c.refused_pass.ensures ∙ pass_absent a.set a.plan c.requires a.server a.reserve (sym c.is_server.ensures ∙ not-true _ c.if-not-is_server.true-raw)

-- where the server is there
module _ (c : tie.Else-not-is_server) where
  abbrev start : tie.Start
  start = c.before.before

  there : is_server start.args.plan start.args.server ≡ true
  there = sym c.is_server.ensures ∙ not-false _ c.if-not-is_server.false-raw

  -- a set's tasks have their places
  full : length start.args.set.tasks ≡ most_tasks
  full = start.well_formed.0.1.1.1.1.0.1.0.1

record_of-own-requires : tie.Need-record_of-own-requires
record_of-own-requires c κs = ((start c).requires, there c)

pass_own-requires : tie.Need-pass_own-requires
pass_own-requires c κs =
    let e = c.before in
    let a = (start e).args in
    let own = of_set a.set (full e) a.plan (start e).requires in
    let within = server_within a.plan a.server (there e) in
    own_recorded a.set (full e) own.clear a.server c.record_of-own.ensures within.0 (omega (arith, within.1, own.servers))

returns : tie.Need-returns
returns c =
    let e = c.before.before in
    let a = (start e).args in
    c.pass_own.ensures ∙ pass_there a.set a.plan (start e).requires (full e) a.server a.reserve (there e) c.record_of-own.ensures

pub pass_made_spec : {M : Type 1} → statement M
pass_made_spec =
    tie.close
    (tie.spec
    (λ c κs. search rules)
    (λ c κs. search rules)
    returns-then-not-is_server
    record_of-own-requires
    pass_own-requires
    returns)
