-- `decimals::decimal` meets its contract: the number so far, with the bytes left behind it, is the number of the text.
-- Assumes nothing.
use mathlib.Core.Path.{sym, ◌∙◌}
use native.Mathlib.Omega.{arith}
use Rattle.decimals.proofs.DecimalLaws.{decimal_of_lem, decimal_none, read_out, next_of, next_wrong}
use Rattle.decimals.proofs.decimal.Goals as goal

pub returns-then-empty : goal.returns-then-empty
returns-then-empty c = sym (decimal_none _ c.if-empty.true)

pub loop-i-init : goal.loop-i-init
loop-i-init c = (omega arith, sym (decimal_of_lem _ (omega arith)))

pub returns-in_err-value : goal.returns-in_err-value
returns-in_err-value c =
    let l = c.loop-i in
    let text = c.args.text.now in
    c.from_residual.ensures ∙ sym (next_wrong text l.i l.value (omega arith) (sym c.append.ensures ∙ c.in_err-value.was)) ∙ l.invariant.1

pub loop-i-preserved : goal.loop-i-preserved
loop-i-preserved c =
    let l = c.loop-i in
    let text = c.args.text.now in
    let more = next_of text l.i l.value (omega arith) _ (sym c.append.ensures ∙ c.in_ok-value.was) in
    (more.0, sym more.1 ∙ l.invariant.1)

pub returns : goal.returns
returns c =
    let l = c.loop-i in
    let text = c.args.text.now in
    sym (read_out text l.i l.value (omega arith) l.invariant.0) ∙ l.invariant.1
