-- `rack::answers::rack_who` meets its contract: the question's answer told in numbers. Assumes nothing.
use mathlib.Core.Path.{refl}
use mathlib.Core.List.{[], ◌∷◌}
use Rattle.whoruns.specs.declared.WhoAnswer.{WhoAnswer}
use Rattle.rack.specs.Rack.{who_numbers, who_told}
use Rattle.told.proofs.ToldLaws.{told_by}
use borrow.Author.Rules.{rules}
use Rattle.rack.proofs.answers.rack_who.Statement.{statement}
use Rattle.rack.proofs.answers.rack_who.Tie as tie

returns : tie.Need-returns
unfolding who_told who_numbers
returns c =
    told_by (λ (w : WhoAnswer). w.outcome) (λ (w : WhoAnswer). w.server ∷ w.left ∷ []) _ c.who_in-who.ensures refl c.tell.ensures

pub rack_who_spec : {M : Type 1} → statement M
rack_who_spec =
    tie.close
    (tie.spec
    (λ c κs. search rules)
    (λ c. search rules)
    (λ c κs. search rules)
    (λ c. search rules)
    returns)
