-- `interrupt_lines` meets its contract.
-- The loop's invariant: the lines so far are taken, the interrupts are what they hold, and the cursor stands behind them.
use Rattle.std.specs.Prelude.{Ok}
use Prim.Native.Nat.{◌+◌, ◌-◌, ◌≤◌, ◌<◌}
use native.Mathlib.Omega.{arith}
use mathlib.Core.Path.{◌≡◌, sym, ◌∙◌}
use borrow.Author.Rules.{rules}
use lib.ListN.{length}
use Rattle.frames.specs.Table.{most_digits}
use Rattle.frames.proofs.Tables.{length_most}
use Rattle.refusals.proofs.FirstLaws.{done_refused}
use Rattle.tasks.specs.Set.{most_interrupts}
use Rattle.taskfile.specs.File.{line_outcome}
use Rattle.interruptlines.proofs.Listing.{Listed, listed_none, listed_count, interrupt_there, interrupt_room, listed_more, ended_done, ended_refused}
use Rattle.interruptlines_code.proofs.interrupt_lines.Statement.{statement}
use Rattle.interruptlines_code.proofs.interrupt_lines.Tie as tie

abbrev invariant-loop-at : tie.invariant-loop-at
invariant-loop-at text from before interrupts₀ at₀ lines₀ interrupts at lines = Listed text before lines at interrupts

abbrev decreases-loop-at : tie.decreases-loop-at
decreases-loop-at text from before interrupts₀ at₀ lines₀ interrupts at lines = length text - at

loop-at-init : tie.Need-loop-at-init invariant-loop-at decreases-loop-at
loop-at-init c = listed_none c.requires.0 c.requires.1 c.none-interrupts.ensures

interrupt_row-outcome-requires : tie.Need-interrupt_row-outcome-requires invariant-loop-at decreases-loop-at
interrupt_row-outcome-requires c κs =
    let listed = c.loop-at.invariant in
    (listed.behind, (c.loop-at-test.true, listed_count listed))

-- the line's answer, where it is refused
returns-in_default : tie.Need-returns-in_default invariant-loop-at decreases-loop-at
returns-in_default c =
    ended_refused c.loop-at.invariant c.interrupt_row-outcome.ensures (λ done. done_refused (sym done ∙ c.in_default.is))

-- and where it is clear
clear : (c : tie.In-Ok invariant-loop-at decreases-loop-at) → line_outcome c.args.text.now (c.loop-at.lines + 1) ≡ Ok tt
clear c = sym c.interrupt_row-outcome.ensures ∙ c.in-Ok.is

interrupt_at-interrupt-requires : tie.Need-interrupt_at-interrupt-requires invariant-loop-at decreases-loop-at
interrupt_at-interrupt-requires c κs =
    (omega (arith, c.loop-at-test.true), interrupt_there c.loop-at.invariant c.loop-at-test.true (clear c))

-- there is room for the interrupt
room : (c : tie.In-Ok invariant-loop-at decreases-loop-at) → c.loop-at.interrupts.count < most_interrupts
room c =
    interrupt_room c.loop-at.invariant c.loop-at-test.true (clear c)

offset_bounds-interrupts-count : tie.Need-offset_bounds-interrupts-count invariant-loop-at decreases-loop-at
offset_bounds-interrupts-count c = omega (arith, room c.before)

bounds-interrupts-count : tie.Need-bounds-interrupts-count invariant-loop-at decreases-loop-at
bounds-interrupts-count c = omega (arith, room c.before)

overflow_add-interrupts : tie.Need-overflow_add-interrupts invariant-loop-at decreases-loop-at
overflow_add-interrupts c = omega (arith, room c.before)

-- a line's length is small
small : (c : tie.After-length invariant-loop-at decreases-loop-at) → c.length.result ≤ most_digits
small c = rw c.length.ensures (length_most _)

overflow_add-at : tie.Need-overflow_add-at invariant-loop-at decreases-loop-at
overflow_add-at c = omega (arith, small c)

overflow_add-at-in-loop-at : tie.Need-overflow_add-at-in-loop-at invariant-loop-at decreases-loop-at
overflow_add-at-in-loop-at c =
    omega (arith, small c, c.loop-at.invariant.behind.taken.within, c.well_formed)

overflow_add-lines : tie.Need-overflow_add-lines invariant-loop-at decreases-loop-at
overflow_add-lines c =
    let taken = c.loop-at.invariant.behind.taken in
    omega (arith, taken.lines, taken.few, taken.fewer)

loop-at-smaller : tie.Need-loop-at-smaller invariant-loop-at decreases-loop-at
loop-at-smaller c = omega (arith, c.length.ensures, c.loop-at-test.true)

loop-at-preserved : tie.Need-loop-at-preserved invariant-loop-at decreases-loop-at
loop-at-preserved c =
    rw c.length.ensures
    (listed_more c.loop-at.invariant c.loop-at-test.true (clear c.before.before) c.interrupt_at-interrupt.ensures)

returns : tie.Need-returns invariant-loop-at decreases-loop-at
returns c = ended_done c.loop-at.invariant c.loop-at-test.false

pub interrupt_lines_spec : {M : Type 1} → statement M
interrupt_lines_spec =
    tie.close
    (tie.spec
    invariant-loop-at
    decreases-loop-at
    (λ c κs. search rules)
    loop-at-init
    interrupt_row-outcome-requires
    (λ c. search rules)
    (λ c. search rules)
    returns-in_default
    interrupt_at-interrupt-requires
    offset_bounds-interrupts-count
    bounds-interrupts-count
    overflow_add-interrupts
    (λ c κs. search rules)
    overflow_add-at
    overflow_add-at-in-loop-at
    overflow_add-lines
    loop-at-smaller
    loop-at-preserved
    returns)
