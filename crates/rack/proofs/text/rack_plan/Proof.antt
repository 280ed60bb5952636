-- `rack::text::rack_plan` meets its contract: what the tool answered, as a length. Assumes nothing.
use Rattle.std.specs.Prelude.{Err, Ok}
use Rattle.rack.proofs.RackLaws.{plan_told}
use borrow.Author.Rules.{rules}
use Rattle.rack.proofs.text.rack_plan.Statement.{statement}
use Rattle.rack.proofs.text.rack_plan.Tie as tie

returns-in_default : tie.Need-returns-in_default
returns-in_default c =
    let a = c.args in
    plan_told a.tasks.now a.out.now _ c.answer.result (Err c.in_default.field-0) c.in_default.is c.answer.ensures

returns : tie.Need-returns
returns c =
    let a = c.args in
    plan_told a.tasks.now a.out.now _ c.answer.result (Ok c.in-Ok.length) c.in-Ok.is c.answer.ensures

pub rack_plan_spec : {M : Type 1} → statement M
rack_plan_spec =
    tie.close
    (tie.spec
    (λ c κs. search rules)
    (λ c. search rules)
    (λ c. search rules)
    (λ c. search rules)
    returns-in_default
    (λ c. search rules)
    returns)
