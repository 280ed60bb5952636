-- `decimaltext::decimal_length` meets its contract: the digits counted, with those of the rest, are all.
-- Assumes nothing.
use native.Mathlib.Omega.{arith}
use Rattle.decimaltext.proofs.TextLaws.{text_length, text_few, digits_count, digits_end}
use Rattle.decimaltext.proofs.decimal_length.Goals as goal

pub loop-rest-init : goal.loop-rest-init
loop-rest-init c = omega (arith, text_length c.args.n)

pub overflow_add-count : goal.overflow_add-count
overflow_add-count c =
    let l = c.loop-rest in
    omega (arith, l.invariant, digits_count l.rest (omega arith), text_few c.args.n (omega arith))

pub loop-rest-preserved : goal.loop-rest-preserved
loop-rest-preserved c =
    let l = c.loop-rest in
    omega (arith, l.invariant, digits_count l.rest (omega arith))

pub returns : goal.returns
returns c =
    let l = c.loop-rest in
    omega (arith, l.invariant, digits_end l.rest (omega arith))
