-- `breaks_interrupt` meets its contract: each way out is told by the tests that led there.
use Prim.Native.Nat.{◌≤◌, ◌<◌}
use native.Mathlib.Omega.{arith}
use mathlib.Core.Bool.{not, ◌&&◌}
use mathlib.Core.Path.{◌≡◌, sym, ◌∙◌}
use lib.Dec.{leb}
use borrow.Author.Rules.{rules}
use borrow.Author.Tests.{lt-leb, le-leb}
use Rattle.taskrows.specs.Rows.{interrupt_row}
use Rattle.taskrows.proofs.Bools.{below_not_most}
use Rattle.taskrows.proofs.InterruptLaws.{row_figures, row_jitter, row_processor}
use Rattle.taskrows_code.proofs.breaks_interrupt.Statement.{statement}
use Rattle.taskrows_code.proofs.breaks_interrupt.Tie as tie

returns-then-out_of_range : tie.Need-returns-then-out_of_range
returns-then-out_of_range c =
    let a = c.args in
    sym (row_figures a.processors a.interrupt (sym c.out_of_range.ensures ∙ c.if-out_of_range.true))

returns-then-interrupt-jitter : tie.Need-returns-then-interrupt-jitter
returns-then-interrupt-jitter c =
    let a = c.args in
    let late : a.interrupt.deadline ≤ a.interrupt.jitter = omega (arith, c.if-interrupt-jitter.true) in
    sym (row_jitter a.processors a.interrupt (sym c.out_of_range.ensures ∙ c.if-out_of_range.false) (le-leb _ _ late))

-- figures in range and a jitter below the deadline: the processor tells
processor : (c : tie.Else-interrupt-jitter) →
    let a = c.args in
    interrupt_row a.processors a.interrupt ≡ not (leb 1 a.interrupt.processor && leb a.interrupt.processor a.processors)
processor c =
    let a = c.args in
    let early : a.interrupt.jitter < a.interrupt.deadline = omega (arith, c.if-interrupt-jitter.false) in
    row_processor a.processors a.interrupt (sym c.out_of_range.ensures ∙ c.if-out_of_range.false) (lt-leb _ _ early)

returns-then-interrupt-lt1 : tie.Need-returns-then-interrupt-lt1
returns-then-interrupt-lt1 c = simp (lt-leb _ _ c.if-interrupt-lt1.true) at (sym (processor c.before.before))

returns : tie.Need-returns
returns c =
    let a = c.args in
    below_not_most a.processors a.interrupt.processor ∙ simp (le-leb _ _ c.if-interrupt-lt1.false) at (sym (processor c.before.before.before))

pub breaks_interrupt_spec : {M : Type 1} → statement M
breaks_interrupt_spec =
    tie.close
    (tie.spec
    (λ c κs. search rules)
    returns-then-out_of_range
    (λ c. search rules)
    returns-then-interrupt-jitter
    returns-then-interrupt-lt1
    returns)
