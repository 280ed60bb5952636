-- A file is read and settled: the text of its plan, or its refusal's line.
-- Assumes nothing.
use mathlib.Core.Path.{refl, ap}
use Rattle.filerows.proofs.FileLaws.{read_cleared, OfFile, of_file}
use Rattle.planfile.specs.Tool.{printed, answered}
use Rattle.planfit.proofs.FitLaws.{fits_as}
use borrow.Author.Rules.{rules}
use Rattle.planfile_code.proofs.answer.Statement.{statement}
use Rattle.planfile_code.proofs.answer.Tie as tie

settle-made-requires : tie.Need-settle-made-requires
settle-made-requires c κs = read_cleared _ c.rows_read-rows.ensures

-- what is known of the file once it is settled
abbrev begun : tie.After-settle-made → tie.Start
begun m = m.before.before.before.before.before.before

file : (m : tie.After-settle-made) → OfFile (begun m).args.text.now m.read-file.result.set m.settle-made.result
file m = of_file _ m.rows_read-rows.ensures m.read-file.ensures m.settle-made.ensures

fit_laid-requires : tie.Need-fit_laid-requires
fit_laid-requires c κs =
    let m = c.before.before.before in
    ((file m).clear c.in-Ok.is, (file m).servers c.in-Ok.is)

returns-in-Ok : tie.Need-returns-in-Ok
unfolding answered
returns-in-Ok c =
    fits_as (ap printed ((file c.before.before.before.before.before.before).planned c.in-Ok.is refl)) c.fit_laid.ensures

returns-in-Err : tie.Need-returns-in-Err
unfolding answered
returns-in-Err c =
    fits_as (ap printed ((file c.before.before.before.before.before).refused c.in-Err.is)) c.fit_refusal.ensures

pub answer_spec : {M : Type 1} → statement M
answer_spec =
    tie.close
    (tie.spec
    (λ c κs. search rules)
    (λ c κs. search rules)
    settle-made-requires
    (λ c. search rules)
    fit_laid-requires
    (λ c. search rules)
    (λ c κs. search rules)
    (λ c. search rules)
    returns-in-Ok
    (λ c. search rules)
    returns-in-Err)
