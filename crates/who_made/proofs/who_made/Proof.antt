-- A processor that is there is asked of the plan's own reserves, which are the set's.
-- Assumes nothing.
use mathlib.Core.Path.{◌≡◌, sym, ◌∙◌}
use lib.ListN.{length}
use Rattle.plancheck.proofs.Checked.{of_set}
use Rattle.whoruns.proofs.StandingLaws.{standing, who_same}
use native.Mathlib.Omega.{arith}
use Rattle.tasks.specs.Set.{most_tasks}
use Rattle.planner.proofs.Made.{needed_few}
use Rattle.whoruns.proofs.WhoLaws.{who_absent, who_there}
use borrow.Author.Tests.{not-true, not-false}
use borrow.Author.Rules.{rules}
use Rattle.who_made.proofs.who_made.Statement.{statement}
use Rattle.who_made.proofs.who_made.Tie as tie

-- a set's tasks have their places
full : (s : tie.Start) → length s.args.set.tasks ≡ most_tasks
full s = s.well_formed.0.1.1.1.1.0.1.0.1

-- a plan's servers have their places
room : (s : tie.Start) → length s.args.plan.server ≡ most_tasks
room s = s.well_formed.1.0.1.1.1.1.1.1.1.0.1.0.1

is_processor-requires : tie.Need-is_processor-requires
is_processor-requires c κs =
    let known = of_set c.args.set (full c) c.args.plan c.requires in
    omega (arith, known.processors, needed_few c.args.set (full c) known.clear)

returns-then-not-is_processor : tie.Need-returns-then-not-is_processor
returns-then-not-is_processor c =
    c.refused_who.ensures ∙ who_absent c.args.set c.args.plan c.requires c.args.processor c.args.tick (sym c.is_processor.ensures ∙ not-true _ c.if-not-is_processor.true-raw)

who_stands-stand-requires : tie.Need-who_stands-stand-requires
who_stands-stand-requires c κs =
    let s = c.before.before in
    standing s.args.set (full s) s.args.plan s.requires (room s) s.args.processor (sym c.is_processor.ensures ∙ not-false _ c.if-not-is_processor.false-raw)

returns : tie.Need-returns
returns c =
    let s = c.before.before.before in
    let a = s.args in
    who_there a.set a.plan s.requires a.processor a.tick c.who_stands-stand.result (sym c.is_processor.ensures ∙ not-false _ c.if-not-is_processor.false-raw)
    (c.who_stands-stand.ensures ∙ who_same a.set (full s) a.plan s.requires a.processor a.tick)

pub who_made_spec : {M : Type 1} → statement M
who_made_spec =
    tie.close
    (tie.spec
    is_processor-requires
    (λ c κs. search rules)
    returns-then-not-is_processor
    who_stands-stand-requires
    returns)
