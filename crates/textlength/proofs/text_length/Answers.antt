-- The bytes of the 01 line, of the 05 line and the 06 line where there are such, of the tasks' lines and of the 07 lines, by the table's
-- lengths.
use Rattle.std.proofs.Common.{ℕ, ◌≡◌, ◌+◌, ◌*◌, ◌≤◌, ◌∙◌, sym, ap, length, take, get_or, arith}
use Rattle.frames.specs.Table.{widths_of, sum, length_of}
use Rattle.frames.specs.declared.table.Frame.{Frame}
use Rattle.frames.proofs.Tables.{length_most}
use Rattle.framelines.proofs.EachLaws.{each_nil}
use Rattle.tasks.specs.Set.{members, most_interrupts, zero_task}
use Rattle.taskframe.specs.Frames.{task_frame}
use Rattle.optionallines.specs.Lines.{optional_line}
use Rattle.optionallines.proofs.OptionalLaws.{optional_most}
use Rattle.tasktext.specs.Text.{task_line, task_lines}
use Rattle.tasktext.proofs.TextLaws.{tasks_most, tasks_more, text_bytes}
use Rattle.textlength.proofs.text_length.Goals as goal
use Rattle.textlength.proofs.text_length.Goals.{After-lines_length-tasks, After-lines_length-last}

pub lines_length-first-requires : goal.lines_length-first-requires
lines_length-first-requires c = omega arith

pub loop-i-init : goal.loop-i-init
loop-i-init c = sym (ap length (each_nil task_line))

pub lines_length-tasks-requires : goal.lines_length-tasks-requires
lines_length-tasks-requires c = omega arith

-- the line of the next task
counted : (c : After-lines_length-tasks) → c.lines_length-tasks.result ≡ length_of (task_frame (get_or c.args.set.tasks c.loop-i.i zero_task)) + 1
counted c = c.lines_length-tasks.ensures ∙ omega arith ∙ ap (λ (f : Frame). length_of f + 1) c.task_frame-frame.ensures

pub overflow_add-tasks : goal.overflow_add-tasks
overflow_add-tasks c =
    let d = (goal.at.overflow_add-tasks c).After-lines_length-tasks in
    omega (arith, counted d, length_most (task_frame (get_or c.args.set.tasks c.loop-i.i zero_task)), tasks_most c.args.set.tasks c.loop-i.i)

pub loop-i-preserved : goal.loop-i-preserved
loop-i-preserved c =
    let d = (goal.at.loop-i-preserved c).After-lines_length-tasks in
    omega (arith, c.loop-i.invariant, counted d, tasks_more c.args.set.tasks c.loop-i.i (omega arith))

pub lines_length-last-requires : goal.lines_length-last-requires
lines_length-last-requires c = omega arith

module _ (c : After-lines_length-last) where
  first-bytes : c.lines_length-first.result ≡ length_of Frame.Header + 1
  first-bytes = c.lines_length-first.ensures ∙ omega arith

  masked-bytes : c.optional_length-masked.result ≡ length (optional_line Frame.Masked c.args.set.header.masked)
  masked-bytes = c.optional_length-masked.ensures

  rule-bytes : c.optional_length-rule.result ≡ length (optional_line Frame.Rule c.args.set.header.rule)
  rule-bytes = c.optional_length-rule.ensures

  tasks_all : c.loop-i.tasks ≡ length (task_lines (members c.args.set))
  tasks_all =
      let all : c.loop-i.i ≡ c.args.set.count = omega arith in
      c.loop-i.invariant ∙ ap (λ (k : ℕ). length (task_lines (take k c.args.set.tasks))) all

  few : c.lines_length-first.result + c.optional_length-masked.result + c.optional_length-rule.result + c.loop-i.tasks + c.lines_length-last.result ≤ 65 * 99
  unfolding widths_of sum
  few =
      omega (arith, first-bytes, masked-bytes, optional_most Frame.Masked c.args.set.header.masked, rule-bytes, optional_most Frame.Rule c.args.set.header.rule, tasks_all, tasks_most c.args.set.tasks c.args.set.count, c.lines_length-last.ensures)

pub overflow_add-result : goal.overflow_add-result
overflow_add-result c = omega (arith, few (goal.at.overflow_add-result c).After-lines_length-last)

pub overflow_add-result-2 : goal.overflow_add-result-2
overflow_add-result-2 c = omega (arith, few (goal.at.overflow_add-result-2 c).After-lines_length-last)

pub overflow_add-result-3 : goal.overflow_add-result-3
overflow_add-result-3 c = omega (arith, few (goal.at.overflow_add-result-3 c).After-lines_length-last)

pub overflow_add-result-4 : goal.overflow_add-result-4
overflow_add-result-4 c = omega (arith, few (goal.at.overflow_add-result-4 c).After-lines_length-last)

pub returns : goal.returns
returns c =
    let d = (goal.at.returns c).After-lines_length-last in
    let interrupts : length c.args.set.interrupts.each ≡ most_interrupts = omega arith in
    omega (arith, first-bytes d, masked-bytes d, rule-bytes d, tasks_all d, c.lines_length-last.ensures, text_bytes c.args.set (omega (arith, interrupts)))
