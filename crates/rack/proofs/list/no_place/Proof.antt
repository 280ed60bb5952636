-- `rack::list::no_place` meets its contract: the file's own refusal, else ROOM. Assumes nothing.
use Rattle.std.specs.Prelude.{Err}
use mathlib.Core.Path.{◌≡◌, sym, ap, ◌∙◌}
use borrow.Author.Rules.{rules}
use Rattle.refusals.specs.declared.Refusal.TheVariants.{Room}
use Rattle.refusals.specs.Refused.{Outcome}
use Rattle.refusals.specs.First.{first_of}
use Rattle.told.specs.Told.{status_of}
use Rattle.rack.proofs.list.no_place.Statement.{statement}
use Rattle.rack.proofs.list.no_place.Tie as tie

-- a file's outcome with ROOM behind it
told : {own other o : Outcome} → own ≡ other → own ≡ o → status_of (first_of o (Err Room)) ≡ status_of (first_of other (Err Room))
told e f = ap (λ (o : Outcome). status_of (first_of o (Err Room))) (sym f ∙ e)

returns-in-Ok : tie.Need-returns-in-Ok
returns-in-Ok c = c.code.ensures ∙ told c.outcome_of-outcome.ensures c.in-Ok.is

returns-in-Err : tie.Need-returns-in-Err
returns-in-Err c = c.code-in-Err.ensures ∙ told c.outcome_of-outcome.ensures c.in-Err.is

pub no_place_spec : {M : Type 1} → statement M
no_place_spec =
    tie.close
    (tie.spec
    (λ c κs. search rules)
    (λ c. search rules)
    (λ c κs. search rules)
    (λ c. search rules)
    (λ c κs. search rules)
    returns-in-Ok
    returns-in-Err)
