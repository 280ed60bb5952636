-- A file is read and settled: the question of its servers, or its refusal.
-- Assumes nothing.
use mathlib.Core.Path.{refl, ap, ◌∙◌}
use Rattle.filerows.proofs.FileLaws.{read_cleared, OfFile, of_file}
use Rattle.askfile.specs.OfFile.{pass_of_file, pass_in}
use borrow.Author.Rules.{rules}
use Rattle.askfile_code.proofs.pass_in.Statement.{statement}
use Rattle.askfile_code.proofs.pass_in.Tie as tie

settle-made-requires : tie.Need-settle-made-requires
settle-made-requires c κs = read_cleared _ c.rows_read-rows.ensures

-- what is known of the file once it is settled
abbrev begun : tie.After-settle-made → tie.Start
begun m = m.before.before.before.before.before

file : (m : tie.After-settle-made) → OfFile (begun m).args.text.now m.read-file.result.set m.settle-made.result
file m = of_file _ m.rows_read-rows.ensures m.read-file.ensures m.settle-made.ensures

pass_served-requires : tie.Need-pass_served-requires
pass_served-requires c κs =
    let m = c.before.before in
    ((file m).clear c.in-Ok.is, (file m).servers c.in-Ok.is)

returns-in-Ok : tie.Need-returns-in-Ok
unfolding pass_in
returns-in-Ok c =
    let t = c.before in
    let m = t.before.before in
    let a = (begun m).args in
    c.pass_served.ensures ∙ ap (pass_of_file a.server a.reserve) ((file m).planned t.in-Ok.is refl)

returns-in-Err : tie.Need-returns-in-Err
unfolding pass_in
returns-in-Err c =
    let t = c.before in
    let m = t.before in
    let a = (begun m).args in
    c.refused_pass.ensures ∙ ap (pass_of_file a.server a.reserve) ((file m).refused t.in-Err.is)

pub pass_in_spec : {M : Type 1} → statement M
pass_in_spec =
    tie.close
    (tie.spec
    (λ c κs. search rules)
    (λ c κs. search rules)
    settle-made-requires
    (λ c. search rules)
    pass_served-requires
    (λ c. search rules)
    (λ c κs. search rules)
    returns-in-Ok
    returns-in-Err)
