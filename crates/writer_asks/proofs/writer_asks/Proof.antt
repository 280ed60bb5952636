-- Row 11 of the set, then row 5 and row 6 of tasks and interrupts; past row 11 the counts are within the room.
-- Assumes nothing.
use Prim.Native.Nat.{ℕ}
use mathlib.Core.Path.{◌≡◌, refl, sym, ◌∙◌, ap}
use mathlib.Core.Bool.{true, false, not}
use lib.Dec.{eqb}
use borrow.Author.Rules.{rules}
use borrow.Author.Tests.{eq-eqb, ne_eqb}
use Rattle.tasks.specs.Set.{members, interrupts_in}
use Rattle.tasks.specs.Search.{some}
use Rattle.taskrows.specs.Rows.{board_row, range_row, interrupt_row}
use Rattle.taskask.specs.Ask.{ask_row}
use Rattle.taskask.proofs.Carried.{ask_count, count_within, interrupts_within}
use Rattle.taskwrite.proofs.WriteAsks.{first_some, writer_rows}
use Rattle.writer_asks.proofs.writer_asks.Statement.{statement}
use Rattle.writer_asks.proofs.writer_asks.Tie as tie

returns-then-asks : tie.Need-returns-then-asks
returns-then-asks c = sym (writer_rows c.args.set (sym c.asks.ensures ∙ c.if-asks.true) refl refl refl)

-- each row does not hold at the places behind it
carried : (c : tie.Else-asks) → ask_row c.args.set ≡ false
carried c = sym c.asks.ensures ∙ c.if-asks.false

returns-then-breaks_board : tie.Need-returns-then-breaks_board
returns-then-breaks_board c =
    let one = c.before.before.before in
    sym (writer_rows one.args.set (carried one) (sym c.breaks_board.ensures ∙ c.if-breaks_board.true) refl refl)

board : (c : tie.Else-breaks_board) → board_row c.args.set.header ≡ false
board c = sym c.breaks_board.ensures ∙ c.if-breaks_board.false

first_out_of_range-task-requires : tie.Need-first_out_of_range-task-requires
first_out_of_range-task-requires c κs =
    let one = c.before.before.before in
    let set = one.args.set in
    (count_within set (ask_count set (carried one))).1

-- some task is out of range where there is a first
ranged : (c : tie.After-first_out_of_range-task) → not (eqb c.first_out_of_range-task.result 0) ≡ some range_row (members c.args.set)
ranged c = ap (λ (n : ℕ). not (eqb n 0)) c.first_out_of_range-task.ensures ∙ first_some range_row 0 (members c.args.set)

returns-then-broken : tie.Need-returns-then-broken
returns-then-broken c =
    let two = c.before.before in
    let one = two.before.before.before in
    let set = one.args.set in
    let out : some range_row (members set) ≡ true = sym (ranged c.before) ∙ ap not (ne_eqb _ _ c.if-broken.true) in
    sym (writer_rows set (carried one) (board two) out refl)

first_interrupt_out-interrupt-requires : tie.Need-first_interrupt_out-interrupt-requires
first_interrupt_out-interrupt-requires c κs =
    let one = c.before.before.before.before.before.before in
    let set = one.args.set in
    interrupts_within set (ask_count set (carried one))

returns : tie.Need-returns
returns c =
    let three = c.before in
    let two = three.before.before.before in
    let one = two.before.before.before in
    let set = one.args.set in
    let in_range : some range_row (members set) ≡ false = sym (ranged three.before.before) ∙ ap not (eq-eqb _ _ three.if-broken.false) in
    ap (λ (n : ℕ). not (eqb n 0)) c.first_interrupt_out-interrupt.ensures
    ∙ first_some (interrupt_row set.header.processors) 0 (interrupts_in set)
    ∙ sym (writer_rows set (carried one) (board two) in_range refl)

pub writer_asks_spec : {M : Type 1} → statement M
writer_asks_spec =
    tie.close
    (tie.spec
    (λ c κs. search rules)
    returns-then-asks
    (λ c κs. search rules)
    returns-then-breaks_board
    first_out_of_range-task-requires
    returns-then-broken
    first_interrupt_out-interrupt-requires
    returns)
