-- `rack::list::rack_switches` meets its contract: the list and its number of bytes, or the refusal. Assumes nothing.
use Prim.Native.Nat.{◌≤◌}
use mathlib.Core.Path.{◌≡◌, sym, ap, ◌∙◌}
use native.Mathlib.Omega.{arith}
use lib.ListN.{length}
use borrow.Author.Rules.{rules}
use Rattle.rack.proofs.ListLaws.{listed_nowhere, listed_bytes, listed_refused}
use Rattle.rack.proofs.list.rack_switches.Statement.{statement}
use Rattle.rack.proofs.list.rack_switches.Tie as tie

returns-then-answer-eq0 : tie.Need-returns-then-answer-eq0
returns-then-answer-eq0 c =
    let a = c.args in
    listed_nowhere a.tasks.now a.out.now a.answer.now (omega (arith, c.if-answer-eq0.true)) c.no_place.ensures

returns-in-Ok : tie.Need-returns-in-Ok
returns-in-Ok c =
    let a = c.args in
    listed_bytes a.tasks.now a.out.now a.answer.now _ (omega (arith, c.if-answer-eq0.false))
    (sym c.list-written.ensures.0 ∙ c.in-Ok.is) c.list-written.ensures.1

returns-in-Err : tie.Need-returns-in-Err
returns-in-Err c =
    let a = c.args in
    listed_refused a.tasks.now a.out.now a.answer.now _ (omega (arith, c.if-answer-eq0.false))
    (sym c.list-written.ensures.0 ∙ c.in-Err.is) c.list-written.ensures.1 c.code.ensures

pub rack_switches_spec : {M : Type 1} → statement M
rack_switches_spec =
    tie.close
    (tie.spec
    (λ c κs. search rules)
    returns-then-answer-eq0
    (λ c κs. search rules)
    (λ c. search rules)
    (λ c. search rules)
    (λ c. search rules)
    (λ c κs. search rules)
    (λ c. search rules)
    (λ c. search rules)
    returns-in-Ok
    (λ c. search rules)
    returns-in-Err)
