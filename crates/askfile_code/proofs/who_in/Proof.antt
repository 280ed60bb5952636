-- A file is read and settled: the question of its plan, or its refusal.
-- Assumes nothing.
use mathlib.Core.Path.{ap, ◌∙◌}
use Rattle.filerows.proofs.FileLaws.{read_cleared, OfFile, of_file, set_makes}
use Rattle.planner.proofs.Made.{outcome_clear}
use Rattle.askfile.specs.OfFile.{who_of_file, who_in}
use borrow.Author.Rules.{rules}
use Rattle.askfile_code.proofs.who_in.Statement.{statement}
use Rattle.askfile_code.proofs.who_in.Tie as tie

settle-made-requires : tie.Need-settle-made-requires
settle-made-requires c κs = read_cleared _ c.rows_read-rows.ensures

-- what is known of the file once it is settled
abbrev begun : tie.After-settle-made → tie.Start
begun m = m.before.before.before.before.before

file : (m : tie.After-settle-made) → OfFile (begun m).args.text.now m.read-file.result.set m.settle-made.result
file m = of_file _ m.rows_read-rows.ensures m.read-file.ensures m.settle-made.ensures

plan_of-requires : tie.Need-plan_of-requires
plan_of-requires c κs =
    let m = c.before.before in
    ((outcome_clear _ ((file m).clear c.in-Ok.is)).0, (file m).servers c.in-Ok.is)

who_made-requires : tie.Need-who_made-requires
who_made-requires c κs = set_makes _ ((file c.before.before.before).clear c.in-Ok.is) c.plan_of.ensures

returns-in-Ok : tie.Need-returns-in-Ok
unfolding who_in
returns-in-Ok c =
    let t = c.before.before in
    let m = t.before.before in
    let a = (begun m).args in
    c.who_made.ensures ∙ ap (who_of_file a.processor a.tick) ((file m).planned t.in-Ok.is c.plan_of.ensures)

returns-in-Err : tie.Need-returns-in-Err
unfolding who_in
returns-in-Err c =
    let t = c.before in
    let m = t.before in
    let a = (begun m).args in
    c.refused_who.ensures ∙ ap (who_of_file a.processor a.tick) ((file m).refused t.in-Err.is)

pub who_in_spec : {M : Type 1} → statement M
who_in_spec =
    tie.close
    (tie.spec
    (λ c κs. search rules)
    (λ c κs. search rules)
    settle-made-requires
    (λ c. search rules)
    plan_of-requires
    who_made-requires
    (λ c. search rules)
    (λ c κs. search rules)
    returns-in-Ok
    returns-in-Err)
