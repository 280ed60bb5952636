-- `decimaltext::put_decimal` meets its contract: the digits set so far, with the rest yet to be stored, are the whole number stored.
-- Assumes nothing.
use Prim.Native.Nat.{◌+◌, ◌/◌}
use mathlib.Core.Path.{◌≡◌, refl, sym, ◌∙◌}
use native.Mathlib.Omega.{arith}
use lib.ListN.{length, length-set}
use Rattle.decimaltext.specs.Text.{digits_of, decimal_text}
use Rattle.decimaltext.proofs.TextLaws.{text_length, text_last, digits_step, digits_count, last_place, last_set, all_set}
use Rattle.decimaltext.proofs.put_decimal.Goals as goal

pub overflow_sub-left : goal.overflow_sub-left
overflow_sub-left c = omega (arith, text_length c.args.n, c.decimal_length.ensures)

pub bounds-out-left : goal.bounds-out-left
bounds-out-left c =
    omega (arith, text_length c.args.n, c.decimal_length.ensures, c.requires)

pub loop-rest-init : goal.loop-rest-init
loop-rest-init c =
    let counted = c.decimal_length.ensures in
    (omega (arith, text_length c.args.n, counted), simp length-set (omega (arith, c.requires, counted)), refl, refl)

pub overflow_sub-left-in-loop-rest : goal.overflow_sub-left-in-loop-rest
overflow_sub-left-in-loop-rest c =
    let l = c.loop-rest in
    omega (arith, digits_count l.rest c.loop-rest-test.true, l.invariant.0)

pub bounds-out-left-in-loop-rest : goal.bounds-out-left-in-loop-rest
bounds-out-left-in-loop-rest c =
    let l = c.loop-rest in
    omega (arith, digits_count l.rest c.loop-rest-test.true, l.invariant.0, l.invariant.1)

pub loop-rest-smaller : goal.loop-rest-smaller
loop-rest-smaller c = omega (arith, c.loop-rest-test.true)

pub loop-rest-preserved : goal.loop-rest-preserved
loop-rest-preserved c =
    let at = c.args.at in
    let l = c.loop-rest in
    let digit = c.last_digit-in-loop-rest.ensures in
    let one_more = digits_step l.rest c.loop-rest-test.true in (
      last_place l.out at l.left (digits_of (l.rest / 10)) (digits_of l.rest) digit one_more l.invariant.0,
      simp length-set (omega (arith, l.invariant.1)),
      length-set l.out _ _ ∙ l.invariant.2,
      last_set l.out at l.left (digits_of (l.rest / 10)) (digits_of l.rest) digit one_more l.invariant.0 l.invariant.1 ∙ l.invariant.3,
    )

pub shape_of-out : goal.shape_of-out
shape_of-out c = c.loop-rest.invariant.2 ∙ length-set c.args.out.now _ _

pub returns-clause-out_after : goal.returns-clause-out_after
returns-clause-out_after c =
    let a = c.args in
    let l = c.loop-rest in
    let counted = c.decimal_length.ensures in
    let whole : a.at + c.decimal_length.result ≡ a.at + length (decimal_text a.n) = omega (arith, counted) in
    sym (all_set l.out a.at l.rest (omega (arith, c.loop-rest-test.false)))
    ∙ l.invariant.3
    ∙ last_set a.out.now a.at _ (digits_of (a.n / 10)) (decimal_text a.n) c.last_digit.ensures (text_last a.n) whole (omega (arith, whole, c.requires))
