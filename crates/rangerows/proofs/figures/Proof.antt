-- `figures` meets its contract: row 5, then row 6 at the first task out of range, then at the first interrupt.
use Prim.Native.Nat.{◌+◌, ◌≤◌}
use native.Mathlib.Omega.{arith}
use mathlib.Core.Bool.{false}
use mathlib.Core.Path.{◌≡◌, sym, ◌∙◌, ap}
use lib.ListN.{length-take}
use borrow.Author.Rules.{rules}
use Rattle.tasks.specs.declared.set.TaskSet.{TaskSet}
use Rattle.tasks.specs.Set.{most_tasks, most_interrupts, members, interrupts_in}
use Rattle.tasks.specs.Search.{first_task, at_task}
use Rattle.tasks.proofs.Firsts.{first_within, at_none, at_some}
use Rattle.taskrows.specs.Rows.{board_row, range_row, interrupt_row, range_at, figures_outcome}
use Rattle.taskrows.proofs.FiguresLaws.{figures_board, figures_task, figures_interrupts}
use Rattle.rangerows.proofs.figures.Statement.{statement}
use Rattle.rangerows.proofs.figures.Tie as tie

returns-then-breaks_board : tie.Need-returns-then-breaks_board
returns-then-breaks_board c =
    let set : TaskSet = c.args.set in
    let said : c.breaks_board.result ≡ board_row set.header = c.breaks_board.ensures in
    sym (figures_board set (sym said ∙ c.if-breaks_board.true))

-- row 5 does not hold, and the first task out of range
module _ (c : tie.After-first_out_of_range-task) where
  abbrev start : tie.Start
  start = c.before.before.before.before

  board : board_row start.args.set.header ≡ false
  board = sym c.breaks_board.ensures ∙ c.if-breaks_board.false

  task : first_task range_row (members start.args.set) ≡ c.first_out_of_range-task.result
  task = sym c.first_out_of_range-task.ensures

  few : c.first_out_of_range-task.result ≤ 1 + most_tasks
  few =
      let set : TaskSet = start.args.set in
      omega (arith, first_within range_row 1 (members set), task, length-take set.count set.tasks, start.requires.0)

overflow_cast-result : tie.Need-overflow_cast-result
overflow_cast-result c = omega (arith, few c.before)

returns-then-broken : tie.Need-returns-then-broken
returns-then-broken c = let d = c.before in sym (figures_task (start d).args.set (board d) (task d) c.if-broken.true)

first_interrupt_out-interrupt-requires : tie.Need-first_interrupt_out-interrupt-requires
first_interrupt_out-interrupt-requires c κs = (start c.before.before).requires.1

-- no task is out of range, and the first interrupt that is
module _ (c : tie.After-first_interrupt_out-interrupt) where
  abbrev ranged : tie.After-first_out_of_range-task
  ranged = c.before.before.before

  interrupts : figures_outcome (start ranged).args.set ≡ at_task range_at c.first_interrupt_out-interrupt.result
  interrupts = figures_interrupts (start ranged).args.set (board ranged) (task ranged) c.if-broken.false ∙ ap (at_task range_at) (sym c.first_interrupt_out-interrupt.ensures)

  few_interrupts : c.first_interrupt_out-interrupt.result ≤ 1 + most_interrupts
  few_interrupts =
      let set : TaskSet = (start ranged).args.set in
      omega (arith, first_within (interrupt_row set.header.processors) 1 (interrupts_in set), c.first_interrupt_out-interrupt.ensures, length-take set.interrupts.count set.interrupts.each, (start ranged).requires.1)

returns-then-kept : tie.Need-returns-then-kept
returns-then-kept c = sym (interrupts c.before ∙ at_none range_at c.first_interrupt_out-interrupt.result c.if-kept.true)

overflow_add-result : tie.Need-overflow_add-result
overflow_add-result c = omega (arith, few_interrupts c.before)

overflow_cast-result-2 : tie.Need-overflow_cast-result-2
overflow_cast-result-2 c = omega (arith, few_interrupts c.before)

returns : tie.Need-returns
returns c = sym (interrupts c.before ∙ at_some range_at c.first_interrupt_out-interrupt.result c.if-kept.false)

pub figures_spec : {M : Type 1} → statement M
figures_spec =
    tie.close
    (tie.spec
    (λ c κs. search rules)
    returns-then-breaks_board
    (λ c κs. search rules)
    overflow_cast-result
    returns-then-broken
    first_interrupt_out-interrupt-requires
    returns-then-kept
    overflow_add-result
    overflow_cast-result-2
    returns)
