-- The 01 line of the header's figures, behind it the 05 line and the 06 line where there are such, the lines of the tasks and the 07 lines are the text.
-- Assumes nothing.
use Prim.Native.Nat.{◌+◌, ◌*◌, ◌≤◌}
use mathlib.Core.Path.{◌≡◌, ◌∙◌}
use native.Mathlib.Omega.{arith}
use borrow.Author.Rules.{rules}
use lib.ListN.{length}
use Rattle.frames.specs.Table.{widths_of, sum, length_of}
use Rattle.frames.specs.declared.table.Frame.{Frame}
use Rattle.tasks.specs.Set.{most_interrupts, members}
use Rattle.optionallines.specs.Lines.{optional_line}
use Rattle.optionallines.proofs.OptionalLaws.{optional_most}
use Rattle.tasktext.specs.Text.{task_lines}
use Rattle.tasktext.proofs.TextLaws.{text_bytes, text_put}
use Rattle.textwrite.proofs.put_text.Statement.{statement}
use Rattle.textwrite.proofs.put_text.Tie as tie

-- the buffer has the room of all lines
room : (s : tie.Start) →
    let set = s.args.set in
    length_of Frame.Header + 1 + length (optional_line Frame.Masked set.header.masked) + length (optional_line Frame.Rule set.header.rule) + length (task_lines (members set)) + set.interrupts.count * (length_of Frame.Interrupt + 1) ≤ length s.args.out.now
room s =
    let set = s.args.set in
    let interrupts : length set.interrupts.each ≡ most_interrupts = s.well_formed.1.0.1.1.1.1.1.0.1.1.1.0.1.0.1 in
    omega (arith, s.requires.1.1, text_bytes set (omega (arith, interrupts, s.requires.1.0)))

put_line-requires : tie.Need-put_line-requires
unfolding widths_of
put_line-requires c κs =
    rw c.header_values-first.ensures (omega arith, omega (arith, room c.before.before.before.before.before))

lines_length-second-requires : tie.Need-lines_length-second-requires
lines_length-second-requires c κs = omega arith

-- the 05 line stands behind the 01 line
second : (c : tie.After-lines_length-second) → c.lines_length-second.result ≡ length_of Frame.Header + 1
second c = c.lines_length-second.ensures ∙ omega arith

put_optional-requires : tie.Need-put_optional-requires
unfolding widths_of optional_line
put_optional-requires c κs =
    let d = c.before in
    let written = d.before.before.before in
    let s = written.before.before.before.before.before.before in
    (omega arith, omega (arith, room s, second d, written.put_line.auto.out))

-- the 06 line stands behind these two
module _ (c : tie.After-optional_length) where
  abbrev opened : tie.After-put_optional
  opened = c.before.before.before

  abbrev written : tie.After-put_line
  written = opened.before.before.before.before.before

  abbrev start : tie.Start
  start = written.before.before.before.before.before.before

  rule_start : opened.lines_length-second.result + c.optional_length.result ≡ length_of Frame.Header + 1 + length (optional_line Frame.Masked start.args.set.header.masked)
  rule_start = omega (arith, second opened.before.before, c.optional_length.ensures)

overflow_add-next : tie.Need-overflow_add-next
unfolding widths_of sum
overflow_add-next c = omega (arith, rule_start c, optional_most Frame.Masked (start c).args.set.header.masked)

put_optional-requires-2 : tie.Need-put_optional-requires-2
unfolding widths_of optional_line
put_optional-requires-2 c κs =
    let d = c.before in
    (omega arith, omega (arith, room (start d), rule_start d, (written d).put_line.auto.out, (opened d).put_optional.auto.out))

-- the tasks' lines start behind these three
module _ (c : tie.After-optional_length-2) where
  abbrev ruled : tie.After-put_optional-2
  ruled = c.before.before.before

  abbrev marked : tie.After-optional_length
  marked = ruled.before.before

  tasks_start : (opened marked).lines_length-second.result + marked.optional_length.result + c.optional_length-2.result
      ≡ length_of Frame.Header + 1 + length (optional_line Frame.Masked (start marked).args.set.header.masked) + length (optional_line Frame.Rule (start marked).args.set.header.rule)
  tasks_start = omega (arith, rule_start marked, c.optional_length-2.ensures)

  -- the lines so far left the buffer's length as it was
  kept : length ruled.put_optional-2.new.out ≡ length (start marked).args.out.now
  kept = omega (arith, (written marked).put_line.auto.out, (opened marked).put_optional.auto.out, ruled.put_optional-2.auto.out)

overflow_add-at : tie.Need-overflow_add-at
unfolding widths_of sum
overflow_add-at c =
    let header = (start (marked c)).args.set.header in
    omega (arith, tasks_start c, optional_most Frame.Masked header.masked, optional_most Frame.Rule header.rule)

put_tasks-behind-requires : tie.Need-put_tasks-behind-requires
put_tasks-behind-requires c κs =
    let d = c.before in
    let s = start (marked d) in
    (s.requires.0, omega (arith, room s, tasks_start d, kept d))

put_interrupts-requires : tie.Need-put_interrupts-requires
put_interrupts-requires c κs =
    let listed = c.before.before.before in
    let d = listed.before.before.before in
    let s = start (marked d) in
    (s.requires.1.0, omega (arith, room s, tasks_start d, listed.put_tasks-behind.ensures.0, kept d, listed.put_tasks-behind.auto.out))

returns : tie.Need-returns
returns c =
    let last = c.before.before in
    let listed = last.before.before.before.before in
    let d = listed.before.before.before in
    let m = marked d in
    let first = (written m).before.before.before in
    let s = start m in
    text_put s.args.set s.args.out.now s.requires.1.1 first.header_values-first.ensures
    (second (opened m).before.before) (rule_start m) (tasks_start d) listed.put_tasks-behind.ensures.0
    (written m).put_line.ensures (opened m).put_optional.ensures (ruled d).put_optional-2.ensures listed.put_tasks-behind.ensures.1 last.put_interrupts.ensures

pub put_text_spec : {M : Type 1} → statement M
put_text_spec =
    tie.close
    (tie.spec
    (λ c κs. search rules)
    (λ c. search rules)
    put_line-requires
    lines_length-second-requires
    put_optional-requires
    (λ c κs. search rules)
    overflow_add-next
    put_optional-requires-2
    (λ c κs. search rules)
    overflow_add-at
    put_tasks-behind-requires
    put_interrupts-requires
    (λ c. search rules)
    returns)
