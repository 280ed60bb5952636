-- `wordline::put_words` meets its contract: what is said so far, with the words that are left yet to be stored, is the whole line stored.
-- Assumes nothing.
use mathlib.Core.Path.{◌∙◌}
use native.Mathlib.Omega.{arith}
use Rattle.wordline.proofs.WordLaws.{none_said, all_said, sign_inside, sign_room, sign_said, byte_room, byte_said}
use Rattle.wordline.proofs.put_words.Goals as goal
use Rattle.wordline.proofs.put_words.Goals.{else-byte-eq35, then-byte-eq35}

pub loop-byte-init : goal.loop-byte-init
loop-byte-init c =
    none_said c.args.out.now c.args.words.now c.args.numbers.now c.requires.words_in_bounds

-- what is known where the byte is a sign
pub offset_bounds-numbers-next : goal.offset_bounds-numbers-next
offset_bounds-numbers-next c =
    let l = c.loop-byte in
    omega (arith, sign_inside l.invariant c.requires.numbers_in_bounds c.loop-byte-test.true c.if-byte-eq35.true)

pub bounds-numbers-next : goal.bounds-numbers-next
bounds-numbers-next c =
    let l = c.loop-byte in
    sign_inside l.invariant c.requires.numbers_in_bounds c.loop-byte-test.true c.if-byte-eq35.true

pub put_decimal-at-requires : goal.put_decimal-at-requires
put_decimal-at-requires c =
    let l = c.loop-byte in
    sign_room l.invariant c.requires.numbers_in_bounds c.loop-byte-test.true c.if-byte-eq35.true

pub overflow_add-next : goal.overflow_add-next
overflow_add-next c =
    let l = c.loop-byte in
    omega (arith, sign_inside l.invariant c.requires.numbers_in_bounds c.loop-byte-test.true c.if-byte-eq35.true)

pub bounds-out-at : goal.bounds-out-at
bounds-out-at c =
    let l = c.loop-byte in
    omega (arith, byte_room l.invariant c.requires.numbers_in_bounds c.loop-byte-test.true c.if-byte-eq35.false)

pub overflow_add-at : goal.overflow_add-at
overflow_add-at c =
    let l = c.loop-byte in
    omega (arith, byte_room l.invariant c.requires.numbers_in_bounds c.loop-byte-test.true c.if-byte-eq35.false, l.invariant.same, c.well_formed)

pub shape_of-out : goal.shape_of-out
shape_of-out c = c.loop-byte.invariant.same

pub loop-byte-preserved : goal.loop-byte-preserved
loop-byte-preserved c =
    let inside = c.loop-byte-test.true in
    let l = c.loop-byte in
    (elim c.if-byte-eq35.branch [
      | then-byte-eq35 w ↦ sign_said l.invariant c.requires.numbers_in_bounds inside w.if-byte-eq35.true (w.at-is ∙ w.put_decimal-at.ensures.value) (w.out-is ∙ w.put_decimal-at.ensures.out_after) w.next-is
      | else-byte-eq35 w ↦ byte_said l.invariant c.requires.numbers_in_bounds inside w.if-byte-eq35.false w.at-is w.out-is w.next-is
    ])

pub returns-clause-value : goal.returns-clause-value
returns-clause-value c = (all_said c.loop-byte.invariant c.requires.numbers_in_bounds c.loop-byte-test.false).0

pub returns-clause-out_after : goal.returns-clause-out_after
returns-clause-out_after c = (all_said c.loop-byte.invariant c.requires.numbers_in_bounds c.loop-byte-test.false).1
