-- A file is read and settled: its list as it fits, or its refusal handed on.
-- Assumes nothing.
use mathlib.Core.Path.{refl}
use Rattle.filerows.proofs.FileLaws.{read_cleared, OfFile, of_file}
use Rattle.switchfile.proofs.ListLaws.{list_fits, list_refused}
use borrow.Author.Rules.{rules}
use Rattle.switchfile_code.proofs.list.Statement.{statement}
use Rattle.switchfile_code.proofs.list.Tie as tie

settle-made-requires : tie.Need-settle-made-requires
settle-made-requires c κs = read_cleared _ c.rows_read-rows.ensures

-- what is known of the file once it is settled
abbrev begun : tie.After-settle-made → tie.Start
begun m = m.before.before.before.before.before.before

file : (m : tie.After-settle-made) → OfFile (begun m).args.text.now m.read-file.result.set m.settle-made.result
file m = of_file _ m.rows_read-rows.ensures m.read-file.ensures m.settle-made.ensures

fit_laid-requires : tie.Need-fit_laid-requires
fit_laid-requires c κs =
    let m = c.before.before.before in
    ((file m).clear c.in-Ok.is, (file m).servers c.in-Ok.is)

returns-in-Ok : tie.Need-returns-in-Ok
returns-in-Ok c =
    let t = c.before.before.before.before in
    let m = t.before.before in
    list_fits (begun m).args.text.now (begun m).args.out.now ((file m).planned t.in-Ok.is refl) refl c.fit_laid.ensures

returns-in-Err : tie.Need-returns-in-Err
returns-in-Err c =
    let m = c.before in
    list_refused (begun m).args.text.now (begun m).args.out.now ((file m).refused c.in-Err.is) refl

pub list_spec : {M : Type 1} → statement M
list_spec =
    tie.close
    (tie.spec
    (λ c κs. search rules)
    (λ c κs. search rules)
    settle-made-requires
    (λ c. search rules)
    fit_laid-requires
    (λ c. search rules)
    (λ c. search rules)
    returns-in-Ok
    returns-in-Err)
