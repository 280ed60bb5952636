-- `rack::answers::rack_pass` meets its contract: the question's verdict told in numbers. Assumes nothing.
use mathlib.Core.Path.{refl}
use Rattle.doespass.specs.declared.PassAnswer.{PassAnswer}
use Rattle.verdict.specs.Numbers.{verdict_numbers}
use Rattle.rack.specs.Rack.{pass_numbers, pass_told}
use Rattle.told.proofs.ToldLaws.{told_by, told_numbers}
use borrow.Author.Rules.{rules}
use Rattle.rack.proofs.answers.rack_pass.Statement.{statement}
use Rattle.rack.proofs.answers.rack_pass.Tie as tie

returns : tie.Need-returns
unfolding pass_told pass_numbers
returns c =
    let p = c.pass_in-pass in
    told_by (λ (p : PassAnswer). p.outcome) (λ (p : PassAnswer). verdict_numbers p.verdict) _ p.ensures refl
    (told_numbers p.result.outcome _ c.numbers_of-numbers.ensures c.tell.ensures)

pub rack_pass_spec : {M : Type 1} → statement M
rack_pass_spec =
    tie.close
    (tie.spec
    (λ c κs. search rules)
    (λ c κs. search rules)
    (λ c. search rules)
    (λ c κs. search rules)
    (λ c. search rules)
    returns)
