-- Laws of a set's text: the fields of a task's line, the bytes of the tasks' lines and of the text, and the text stored in five steps.
-- Assumes nothing.
use Rattle.std.specs.Prelude.{None, Option, Some}
use Prim.Native.Nat.{ℕ, ◌+◌, ◌*◌, ◌≤◌, ◌<◌}
use mathlib.Core.Path.{◌≡◌, ◌∙◌, ap, ap₂}
use mathlib.Core.List.{List, ◌++◌, append_assoc}
use native.Mathlib.Nat.{min-le_left}
use native.Mathlib.Numerals.{add-one}
use native.Mathlib.Omega.{arith}
use lib.ListN.{length, take, get_or, length-append, length-take}
use lib.Seq.{length-take-le}
use Rattle.frames.specs.Table.{widths_of, fields_in, length_of, most_digits}
use Rattle.frames.proofs.Tables.{length_most}
use Rattle.framewrite.specs.Line.{line_of}
use Rattle.digits.specs.Stored.{stored}
use Rattle.frames.specs.declared.table.Frame.{Frame}
use Rattle.framewrite.proofs.LineLaws.{line_length}
use Rattle.framelines.proofs.EachLaws.{each_next, each_most, each_length}
use Rattle.digits.proofs.Stored.{stored_stored}
use Rattle.tasks.specs.declared.set.Task.{Task}
use Rattle.tasks.specs.declared.set.TaskSet.{TaskSet}
use Rattle.tasks.specs.Set.{members, interrupts_in, zero_task}
use Rattle.tasks.specs.Values.{header_values, task_values, interrupt_values}
use Rattle.taskframe.specs.Frames.{frame_by, task_frame}
use Rattle.optionallines.specs.Lines.{optional_line, interrupt_lines}
use Rattle.tasktext.specs.Text.{task_line, task_lines, text_of}

-- a task has a figure for each field of its line
fields_few : (cache : Option ℕ) → fields_in (frame_by cache) ≤ 5
unfolding widths_of
fields_few None = omega arith
fields_few (Some cost) = omega arith

pub task_sized : (t : Task) → fields_in (task_frame t) ≤ length (task_values t)
task_sized t = fields_few t.cache

line_most : (frame : Frame) (values : List ℕ) → length (line_of frame values) ≤ most_digits + 1
line_most frame values = omega (arith, line_length frame values, length_most frame)

-- the bytes of the lines of the first i tasks, and of one more
pub tasks_most : (ts : List Task) (i : ℕ) → length (task_lines (take i ts)) ≤ i * (most_digits + 1)
tasks_most ts i =
    omega (arith, each_most task_line (most_digits + 1) (λ (t : Task). line_most _ _) (take i ts), length-take i ts, min-le_left i (length ts))

pub tasks_more : (ts : List Task) (i : ℕ) → i < length ts → length (task_lines (take (i + 1) ts)) ≡ length (task_lines (take i ts)) + (length_of (task_frame (get_or ts i zero_task)) + 1)
tasks_more ts i h =
    let t = get_or ts i zero_task in
    ap (λ (k : ℕ). length (task_lines (take k ts))) (add-one i)
    ∙ ap length (each_next task_line zero_task ts i h)
    ∙ length-append (task_lines (take i ts)) (task_line t)
    ∙ ap (λ (k : ℕ). length (task_lines (take i ts)) + k) (line_length (task_frame t) (task_values t))

-- a text stored, and another right behind it: both stored
stored_behind : (b x y : List ℕ) {c d : List ℕ} {at : ℕ} → c ≡ stored b 0 x → at ≡ length x → d ≡ stored c at y → length x + length y ≤ length b → d ≡ stored b 0 (x ++ y)
stored_behind b x y front at-end both fits = both ∙ ap₂ (λ (l : List ℕ) (n : ℕ). stored l n y) front (omega (arith, at-end)) ∙ stored_stored b 0 x y (omega arith)

module _ (set : TaskSet) where
  abbrev first : List ℕ
  first = line_of Frame.Header (header_values set.header)

  abbrev masked : List ℕ
  masked = optional_line Frame.Masked set.header.masked

  abbrev rule : List ℕ
  rule = optional_line Frame.Rule set.header.rule

  abbrev tasks : List ℕ
  tasks = task_lines (members set)

  abbrev last : List ℕ
  last = interrupt_lines (interrupts_in set)

  -- the bytes of the text: those of the 01 line, the 05 line and the 06 line, of the tasks' lines and of the 07 lines
  pub text_bytes : set.interrupts.count ≤ length set.interrupts.each
      → length (text_of set) ≡ length_of Frame.Header + 1 + length masked + length rule + length tasks + set.interrupts.count * (length_of Frame.Interrupt + 1)
  unfolding text_of
  text_bytes few =
      simp length-append (
      omega (arith, line_length Frame.Header (header_values set.header), each_length Frame.Interrupt interrupt_values (interrupts_in set) ∙ ap (λ (n : ℕ). n * (length_of Frame.Interrupt + 1)) (length-take-le set.interrupts.count set.interrupts.each few))
      )

  -- the 01 line of the header's figures stored, behind it the 05 line and the 06 line, where there are such, the lines of the tasks and the
  -- 07 lines: the text stored
  pub text_put : (b : List ℕ) {header written opened ruled listed left : List ℕ} {second next at behind : ℕ} → length (text_of set) ≤ length b
      → header ≡ header_values set.header
      → second ≡ length_of Frame.Header + 1 → next ≡ length_of Frame.Header + 1 + length masked
      → at ≡ length_of Frame.Header + 1 + length masked + length rule → behind ≡ at + length tasks
      → written ≡ stored b 0 (line_of Frame.Header header) → opened ≡ stored written second masked → ruled ≡ stored opened next rule
      → listed ≡ stored ruled at tasks → left ≡ stored listed behind last
      → left ≡ stored b 0 (text_of set)
  unfolding text_of
  text_put b {opened = opened} {ruled = ruled} {listed = listed} fits e first_ends masked-ends rule-ends tasks-end first-put masked-put rule-put tasks-put last-put =
      stored_behind b (((first ++ masked) ++ rule) ++ tasks) last listed_put (simp length-append (omega (arith, bytes, first_ends, masked-ends, rule-ends, tasks-end))) last-put (simp length-append (omega (arith, room)))
      ∙ ap (stored b 0) (append_assoc ((first ++ masked) ++ rule) tasks last ∙ append_assoc (first ++ masked) rule (tasks ++ last) ∙ append_assoc first masked (rule ++ (tasks ++ last)))
    where
      bytes : length first ≡ length_of Frame.Header + 1
      bytes = line_length Frame.Header (header_values set.header)

      room : length first + (length masked + (length rule + (length tasks + length last))) ≤ length b
      room = omega (arith, simp length-append at fits)

      opened_put : opened ≡ stored b 0 (first ++ masked)
      opened_put = stored_behind b first masked (first-put ∙ ap (λ (vs : List ℕ). stored b 0 (line_of Frame.Header vs)) e) (omega (arith, bytes, first_ends)) masked-put (omega (arith, room))

      ruled_put : ruled ≡ stored b 0 ((first ++ masked) ++ rule)
      ruled_put = stored_behind b (first ++ masked) rule opened_put (simp length-append (omega (arith, bytes, first_ends, masked-ends))) rule-put (simp length-append (omega (arith, room)))

      listed_put : listed ≡ stored b 0 (((first ++ masked) ++ rule) ++ tasks)
      listed_put = stored_behind b ((first ++ masked) ++ rule) tasks ruled_put (simp length-append (omega (arith, bytes, first_ends, masked-ends, rule-ends))) tasks-put (simp length-append (omega (arith, room)))
