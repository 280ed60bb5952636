-- `framelines_code::put_lines` meets its contract: the lines put so far are stored, one behind the other.
-- Assumes nothing.
use Prim.Native.Nat.{◌+◌}
use mathlib.Core.Path.{◌≡◌, ◌∙◌, ap}
use native.Mathlib.Omega.{arith}
use lib.ListN.{length-drop}
use borrow.Author.Rules.{part_to_end}
use Rattle.digits.specs.Stored.{stored}
use Rattle.frames.specs.Table.{length_of, sum}
use Rattle.frames.proofs.Tables.{fields_most}
use Rattle.framewrite.specs.Line.{row_widths, line_of}
use Rattle.framewrite.proofs.LineLaws.{row_fields, row_digits, row_line}
use Rattle.framelines.proofs.LinesLaws.{put_none, put_room, put_values, put_next, put_all}
use Rattle.framelines_code.proofs.put_lines.Goals as goal

pub loop-init : goal.loop-init
loop-init c = put_none _ _ _ _ _

-- the next line's values are there
pub put_row-next-requires-clause-fields_le_most_fields : goal.put_row-next-requires-clause-fields_le_most_fields
put_row-next-requires-clause-fields_le_most_fields c =
    let frame = c.args.frame in
    let own = row_fields frame c.row_of-row.ensures in
    rw part_to_end (simp length-drop (omega (arith, own, fields_most frame), omega (arith, own, put_values c.loop.invariant c.loop-test.true c.requires.frame_bound)))

-- and there is room for it
pub put_row-next-requires-clause-row_bound : goal.put_row-next-requires-clause-row_bound
put_row-next-requires-clause-row_bound c =
    omega (arith, row_digits c.args.frame c.row_of-row.ensures, put_room c.loop.invariant c.loop-test.true c.requires.frame_bound_2, c.loop.invariant.same, c.loop.invariant.there)

pub overflow_add-from : goal.overflow_add-from
overflow_add-from c =
    omega (arith, row_fields c.args.frame c.row_of-row.ensures, put_values c.loop.invariant c.loop-test.true c.requires.frame_bound, c.well_formed)

pub loop-preserved : goal.loop-preserved
loop-preserved c =
    let a = c.args in
    let now = c.loop in
    let own = c.row_of-row.ensures in
    let written = c.put_row-next in
    let line = row_line a.frame own _ ∙ ap (line_of a.frame) (part_to_end a.values.now now.from) in
    let ends : now.next + 2 + sum (row_widths c.row_of-row.result) + 1 ≡ now.next + (length_of a.frame + 1) = omega (arith, row_digits a.frame own) in
    put_next now.invariant c.loop-test.true c.requires.frame_bound_2 (written.ensures.out_after ∙ ap (stored now.out now.next) line) written.auto.out (written.ensures.value ∙ ends) (omega (arith, row_fields a.frame own))

pub shape_of-out : goal.shape_of-out
shape_of-out c = c.loop.invariant.same

pub returns : goal.returns
returns c = put_all c.loop.invariant (omega arith)
