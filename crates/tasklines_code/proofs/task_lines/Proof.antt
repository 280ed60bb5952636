-- `task_lines` meets its contract.
-- The loop's invariant: the lines so far are taken, the set and the ids are what they hold, and the cursor stands behind them.
use Rattle.std.specs.Prelude.{Ok}
use Prim.Native.Nat.{ℕ, ◌+◌, ◌-◌, ◌≤◌, ◌<◌}
use native.Mathlib.Omega.{arith}
use mathlib.Core.Bool.{false}
use mathlib.Core.List.{List}
use mathlib.Core.Path.{◌≡◌, refl, sym, ◌∙◌, ap}
use borrow.Author.Rules.{rules}
use borrow.Author.Tests.{not-true, not-false}
use lib.ListN.{length, drop}
use lib.Seq.{length-take-le}
use Rattle.frameread.specs.Line.{formed}
use Rattle.frames.specs.declared.table.Frame.{Frame}
use Rattle.frames.specs.Table.{most_digits, length_of}
use Rattle.frames.proofs.Tables.{length_most}
use Rattle.tasks.specs.declared.set.Task.{Task}
use Rattle.tasks.specs.Set.{most_tasks}
use Rattle.taskframe.specs.Frames.{task_frame}
use Rattle.taskfile.specs.File.{line_outcome, task_at}
use Rattle.lineanswer.specs.Answer.{line_or}
use Rattle.tasklines.proofs.Tasking.{Held, held_few, held_opening, held_task, held_over, held_before, task_room, ended_done, ended_refused}
use Rattle.tasklines_code.proofs.task_lines.Statement.{statement}
use Rattle.tasklines_code.proofs.task_lines.Tie as tie

abbrev invariant-loop-at : tie.invariant-loop-at
invariant-loop-at text set₀ ids₀ at₀ lines₀ set ids at lines = Held text lines at set ids

abbrev decreases-loop-at : tie.decreases-loop-at
decreases-loop-at text set₀ ids₀ at₀ lines₀ set ids at lines = length text - at

loop-at-init : tie.Need-loop-at-init invariant-loop-at decreases-loop-at
loop-at-init c =
    held_opening c.args.text.now c.zero-set.ensures refl c.requires.0 c.requires.1

is_line-requires : tie.Need-is_line-requires invariant-loop-at decreases-loop-at
is_line-requires c κs = omega (arith, c.loop-at-test.true)

slice_bounds-ids-end : tie.Need-slice_bounds-ids-end invariant-loop-at decreases-loop-at
slice_bounds-ids-end c = let held = c.loop-at.invariant in omega (arith, held_few held, held.room)

slice_bounds-task_line-end : tie.Need-slice_bounds-task_line-end invariant-loop-at decreases-loop-at
slice_bounds-task_line-end c = let held = c.loop-at.invariant in sym (length-take-le _ _ (omega (arith, held_few held, held.room)))

-- the line at the cursor is no 07 line
other : (c : tie.Then-not-is_line invariant-loop-at decreases-loop-at) → formed Frame.Interrupt (drop c.loop-at.at c.args.text.now) ≡ false
other c = sym c.is_line.ensures ∙ not-true _ c.if-not-is_line.true-raw

task_line-line-requires : tie.Need-task_line-line-requires invariant-loop-at decreases-loop-at
task_line-line-requires c κs =
    let held = c.loop-at.invariant in
    (held.tasked, (c.loop-at-test.true, (held.listed, other c.before)))

returns-in_default : tie.Need-returns-in_default invariant-loop-at decreases-loop-at
returns-in_default c =
    ended_refused c.loop-at.invariant c.in_default.field-0 c.task_line-line.ensures c.in_default.is c.of_line.ensures

-- the turn in which a task was told
abbrev turn : tie.In-Ok invariant-loop-at decreases-loop-at → tie.In-loop-at invariant-loop-at decreases-loop-at
turn c = c.before.before.before.before.before

abbrev text_of : tie.In-Ok invariant-loop-at decreases-loop-at → List ℕ
text_of c = (turn c).before.before.before.before.before.args.text.now

-- what the line gives where it is a task
gives : (c : tie.In-Ok invariant-loop-at decreases-loop-at) → line_or (line_outcome (text_of c) ((turn c).loop-at.lines + 1)) (task_at (drop (turn c).loop-at.at (text_of c))) ≡ Ok c.in-Ok.task
gives c = sym c.task_line-line.ensures ∙ c.in-Ok.is

-- there is room for the task
room : (c : tie.In-Ok invariant-loop-at decreases-loop-at) → (turn c).loop-at.set.count < most_tasks
room c = task_room c.in-Ok.task (turn c).loop-at.invariant (turn c).loop-at-test.true (other c.before.before.before) (gives c)

offset_bounds-set-count : tie.Need-offset_bounds-set-count invariant-loop-at decreases-loop-at
offset_bounds-set-count c = omega (arith, room c)

bounds-set-count : tie.Need-bounds-set-count invariant-loop-at decreases-loop-at
bounds-set-count c = omega (arith, room c)

overflow_add-set : tie.Need-overflow_add-set invariant-loop-at decreases-loop-at
overflow_add-set c = omega (arith, room c)

bounds-ids-count : tie.Need-bounds-ids-count invariant-loop-at decreases-loop-at
bounds-ids-count c = omega (arith, room c)

-- a line's length is small
small : (c : tie.After-length invariant-loop-at decreases-loop-at) → c.length.result ≤ most_digits
small c = rw c.length.ensures (length_most _)

overflow_add-at : tie.Need-overflow_add-at invariant-loop-at decreases-loop-at
overflow_add-at c = omega (arith, small c)

overflow_add-at-in-loop-at : tie.Need-overflow_add-at-in-loop-at invariant-loop-at decreases-loop-at
overflow_add-at-in-loop-at c =
    let at = (turn c.before.before).before in
    omega (arith, small c, at.loop-at.invariant.tasked.taken.within, at.well_formed)

overflow_add-lines : tie.Need-overflow_add-lines invariant-loop-at decreases-loop-at
overflow_add-lines c =
    let taken = (turn c.before.before).loop-at.invariant.tasked.taken in
    omega (arith, taken.lines, taken.few, taken.fewer)

loop-at-smaller : tie.Need-loop-at-smaller invariant-loop-at decreases-loop-at
loop-at-smaller c = omega (arith, c.length.ensures, (turn c.before.before).loop-at-test.true)

loop-at-preserved : tie.Need-loop-at-preserved invariant-loop-at decreases-loop-at
loop-at-preserved c =
    let k = c.before.before in
    let task : Task = k.in-Ok.task in
    let size : c.length.result ≡ length_of (task_frame task) = c.length.ensures ∙ ap length_of c.task_frame-frame.ensures in
    rw size
    (held_task task (turn k).loop-at.invariant (turn k).loop-at-test.true (other k.before.before.before) (gives k))

returns-else-not-is_line : tie.Need-returns-else-not-is_line invariant-loop-at decreases-loop-at
returns-else-not-is_line c =
    let held = c.loop-at.invariant in
    ended_done held (held_before held (sym c.is_line.ensures ∙ not-false _ c.if-not-is_line.false-raw))

returns-after-loop-at : tie.Need-returns-after-loop-at invariant-loop-at decreases-loop-at
returns-after-loop-at c = let held = c.loop-at.invariant in ended_done held (held_over held c.loop-at-test.false)

pub task_lines_spec : {M : Type 1} → statement M
task_lines_spec =
    tie.close
    (tie.spec
    invariant-loop-at
    decreases-loop-at
    (λ c κs. search rules)
    loop-at-init
    is_line-requires
    slice_bounds-ids-end
    slice_bounds-task_line-end
    task_line-line-requires
    (λ c. search rules)
    (λ c. search rules)
    (λ c κs. search rules)
    returns-in_default
    offset_bounds-set-count
    bounds-set-count
    overflow_add-set
    bounds-ids-count
    (λ c κs. search rules)
    (λ c κs. search rules)
    overflow_add-at
    overflow_add-at-in-loop-at
    overflow_add-lines
    loop-at-smaller
    loop-at-preserved
    returns-else-not-is_line
    returns-after-loop-at)
