-- `askwords::asked` meets its contract, by the two numbers and the word.
-- Assumes nothing.
use Rattle.std.specs.Prelude.{Some}
use mathlib.Core.Path.{◌≡◌, sym, ◌∙◌}
use Rattle.decimals.specs.Decimal.{decimal_of}
use Rattle.askwords.proofs.QuestionLaws.{same_word, first_wrong, second_wrong, asks_who, asks_pass, asks_neither}
use borrow.Author.Rules.{rules}
use Rattle.askwords.proofs.asked.Statement.{statement}
use Rattle.askwords.proofs.asked.Tie as tie

-- the two numbers, where they are read
first_is : (c : tie.In-Some) → decimal_of c.args.first.now ≡ Some c.in-Some.one
first_is c = sym c.decimal.ensures ∙ c.in-Some.is

second_is : (c : tie.In-Some-decimal) → decimal_of c.args.second.now ≡ Some c.in-Some-decimal.other
second_is c = sym c.decimal-2.ensures ∙ c.in-Some-decimal.is

returns-in_default : tie.Need-returns-in_default
returns-in_default c =
    let a = c.args in
    first_wrong a.word.now a.first.now a.second.now (sym c.decimal.ensures ∙ c.in_default.is)

returns-in_default-decimal : tie.Need-returns-in_default-decimal
returns-in_default-decimal c =
    let a = c.args in
    second_wrong a.word.now a.first.now a.second.now (first_is c.before.before) (sym c.decimal-2.ensures ∙ c.in_default-decimal.is)

returns-then-same : tie.Need-returns-then-same
returns-then-same c =
    let a = c.args in
    asks_who a.word.now a.first.now a.second.now (first_is c.before.before.before.before.before.before) (second_is c.before.before.before.before) (same_word _ _ c.same.ensures ∙ c.if-same.true)

returns-then-same-2 : tie.Need-returns-then-same-2
returns-then-same-2 c =
    let a = c.args in
    asks_pass a.word.now a.first.now a.second.now (first_is c.before.before.before.before.before.before.before.before.before.before) (second_is c.before.before.before.before.before.before.before.before)
    (same_word _ _ c.same.ensures ∙ c.if-same.false)
    (same_word _ _ c.same-2.ensures ∙ c.if-same-2.true)

returns : tie.Need-returns
returns c =
    let a = c.args in
    asks_neither a.word.now a.first.now a.second.now (first_is c.before.before.before.before.before.before.before.before.before.before) (second_is c.before.before.before.before.before.before.before.before)
    (same_word _ _ c.same.ensures ∙ c.if-same.false)
    (same_word _ _ c.same-2.ensures ∙ c.if-same-2.false)

pub asked_spec : {M : Type 1} → statement M
asked_spec =
    tie.close
    (tie.spec
    (λ c κs. search rules)
    (λ c. search rules)
    (λ c. search rules)
    returns-in_default
    (λ c κs. search rules)
    (λ c. search rules)
    (λ c. search rules)
    returns-in_default-decimal
    (λ c κs. search rules)
    returns-then-same
    (λ c κs. search rules)
    returns-then-same-2
    returns)
