use Rattle.std.proofs.Common.{◌≡◌, ◌+◌, ◌≤◌, ◌∙◌, ap, length, get_or, arith}
use Rattle.digits.specs.Stored.{stored}
use Rattle.frames.specs.Table.{sum, row_of}
use Rattle.frames.proofs.Tables.{fields_most}
use Rattle.framewrite.specs.Line.{row_widths, line_of}
use Rattle.framewrite.proofs.LineLaws.{line_length, row_fields, row_digits, row_line}
use Rattle.framelines.proofs.EachPutLaws.{each_put_none, each_put_room, each_put_next, each_put_all}
use Rattle.tasks.specs.declared.set.Task.{Task}
use Rattle.tasks.specs.Set.{zero_task}
use Rattle.tasks.specs.Values.{task_values}
use Rattle.taskframe.specs.Frames.{task_frame}
use Rattle.tasktext.specs.Text.{task_line}
use Rattle.tasktext.proofs.TextLaws.{task_sized}
use Rattle.tasktext_code.proofs.put_tasks.Goals as goal
use Rattle.tasktext_code.proofs.put_tasks.Goals.{After-task_values-values}

pub loop-i-init : goal.loop-i-init
loop-i-init c = each_put_none task_line _ _ _ _

-- the next task's line: its row, its figures, and that there is room for it
module _ (c : After-task_values-values) where
  abbrev task : Task
  task = get_or c.args.set.tasks c.loop-i.i zero_task

  own : c.row_of-row.result ≡ row_of (task_frame task)
  own = c.row_of-row.ensures ∙ ap row_of c.task_frame-frame.ensures

  enough : c.args.set.count ≤ length c.args.set.tasks
  enough = omega arith

  ends : c.loop-i.next + 2 + sum (row_widths c.row_of-row.result) + 1 ≡ c.loop-i.next + length (task_line task)
  ends = omega (arith, row_digits (task_frame task) own, line_length (task_frame task) (task_values task))

  room : c.loop-i.next + length (task_line task) ≤ length c.args.out.now
  room = each_put_room task_line zero_task c.loop-i.invariant enough c.requires.set_bound c.loop-i-test.true

pub put_row-next-requires : goal.put_row-next-requires
put_row-next-requires c =
    let d = (goal.at.put_row-next-requires c).After-task_values-values in
    let frame = task_frame (task d) in
    rw d.task_values-values.ensures (record {
      fields_le_most_fields = (omega (arith, row_fields frame (own d), fields_most frame), omega (arith, row_fields frame (own d), task_sized (task d)));
      row_bound = omega (arith, ends d, room d, c.loop-i.invariant.same);
    })

pub loop-i-preserved : goal.loop-i-preserved
loop-i-preserved c =
    let d = (goal.at.loop-i-preserved c).After-task_values-values in
    let frame = task_frame (task d) in
    let l = c.loop-i in
    let line = row_line frame (own d) _ ∙ ap (line_of frame) d.task_values-values.ensures in
    each_put_next task_line zero_task l.invariant (enough d) c.requires.set_bound c.loop-i-test.true
    (c.put_row-next.ensures.out_after ∙ ap (stored l.out l.next) line) c.put_row-next.auto.out (c.put_row-next.ensures.value ∙ ends d)

pub returns : goal.returns
returns c =
    let all = each_put_all task_line c.loop-i.invariant c.loop-i-test.false in
    record { value = all.0; out_after = all.1 }
