-- The parts of row 11 in order; past row 3 the counts are within the room.
-- Assumes nothing.
use mathlib.Core.Bool.{false}
use mathlib.Core.Path.{◌≡◌, refl, sym, ◌∙◌}
use native.Mathlib.Omega.{arith}
use borrow.Author.Rules.{rules}
use Rattle.frames.specs.Table.{widths_of}
use Rattle.frames.specs.declared.table.Frame.{Frame}
use Rattle.tasks.specs.Set.{members}
use Rattle.tasks.specs.Search.{some}
use Rattle.taskask.specs.Ask.{count_row, twice_row, header_overflows, task_overflows, optional_overflows}
use Rattle.taskask.proofs.Carried.{ask_rows, count_within, interrupts_within}
use Rattle.askrow.proofs.asks.Statement.{statement}
use Rattle.askrow.proofs.asks.Tie as tie

returns-then-breaks_count : tie.Need-returns-then-breaks_count
returns-then-breaks_count c = sym (ask_rows c.args.set (sym c.breaks_count.ensures ∙ c.if-breaks_count.true) refl refl refl refl refl refl)

-- each part does not hold at the places behind it
counted : (c : tie.Else-breaks_count) → count_row c.args.set ≡ false
counted c = sym c.breaks_count.ensures ∙ c.if-breaks_count.false

breaks_twice-requires : tie.Need-breaks_twice-requires
breaks_twice-requires c κs = (count_within c.args.set (counted c)).1

returns-then-breaks_twice : tie.Need-returns-then-breaks_twice
returns-then-breaks_twice c =
    let one = c.before.before in
    sym (ask_rows one.args.set (counted one) (sym c.breaks_twice.ensures ∙ c.if-breaks_twice.true) refl refl refl refl refl)

once : (c : tie.Else-breaks_twice) → twice_row (members c.args.set) ≡ false
once c = sym c.breaks_twice.ensures ∙ c.if-breaks_twice.false

returns-then-header_overflows : tie.Need-returns-then-header_overflows
returns-then-header_overflows c =
    let two = c.before.before.before in
    let one = two.before.before in
    sym (ask_rows one.args.set (counted one) (once two) (sym c.header_overflows.ensures ∙ c.if-header_overflows.true) refl refl refl refl)

opened : (c : tie.Else-header_overflows) → header_overflows c.args.set.header ≡ false
opened c = sym c.header_overflows.ensures ∙ c.if-header_overflows.false

tasks_overflow-requires : tie.Need-tasks_overflow-requires
tasks_overflow-requires c κs = let one = c.before.before.before.before.before in (count_within one.args.set (counted one)).1

returns-then-tasks_overflow : tie.Need-returns-then-tasks_overflow
returns-then-tasks_overflow c =
    let three = c.before.before in
    let two = three.before.before.before in
    let one = two.before.before in
    sym (ask_rows one.args.set (counted one) (once two) (opened three) (sym c.tasks_overflow.ensures ∙ c.if-tasks_overflow.true) refl refl refl)

tasked : (c : tie.Else-tasks_overflow) → some task_overflows (members c.args.set) ≡ false
tasked c = sym c.tasks_overflow.ensures ∙ c.if-tasks_overflow.false

optional_overflows-requires : tie.Need-optional_overflows-requires
unfolding widths_of
optional_overflows-requires c κs = omega arith

returns-then-optional_overflows : tie.Need-returns-then-optional_overflows
returns-then-optional_overflows c =
    let four = c.before.before in
    let three = four.before.before in
    let two = three.before.before.before in
    let one = two.before.before in
    sym (ask_rows one.args.set (counted one) (once two) (opened three) (tasked four) (sym c.optional_overflows.ensures ∙ c.if-optional_overflows.true) refl refl)

masked : (c : tie.Else-optional_overflows) → optional_overflows Frame.Masked c.args.set.header.masked ≡ false
masked c = sym c.optional_overflows.ensures ∙ c.if-optional_overflows.false

optional_overflows-requires-2 : tie.Need-optional_overflows-requires-2
unfolding widths_of
optional_overflows-requires-2 c κs = omega arith

returns-then-optional_overflows-2 : tie.Need-returns-then-optional_overflows-2
returns-then-optional_overflows-2 c =
    let five = c.before.before in
    let four = five.before.before in
    let three = four.before.before in
    let two = three.before.before.before in
    let one = two.before.before in
    sym (ask_rows one.args.set (counted one) (once two) (opened three) (tasked four) (masked five) (sym c.optional_overflows-2.ensures ∙ c.if-optional_overflows-2.true) refl)

interrupts_overflow-requires : tie.Need-interrupts_overflow-requires
interrupts_overflow-requires c κs =
    let one = c.before.before.before.before.before.before.before.before.before.before.before.before in
    interrupts_within one.args.set (counted one)

returns : tie.Need-returns
returns c =
    let six = c.before in
    let five = six.before.before.before in
    let four = five.before.before in
    let three = four.before.before in
    let two = three.before.before.before in
    let one = two.before.before in
    c.interrupts_overflow.ensures
    ∙ sym (ask_rows one.args.set (counted one) (once two) (opened three) (tasked four) (masked five) (sym six.optional_overflows-2.ensures ∙ six.if-optional_overflows-2.false) refl)

pub asks_spec : {M : Type 1} → statement M
asks_spec =
    tie.close
    (tie.spec
    (λ c κs. search rules)
    returns-then-breaks_count
    breaks_twice-requires
    returns-then-breaks_twice
    (λ c κs. search rules)
    returns-then-header_overflows
    tasks_overflow-requires
    returns-then-tasks_overflow
    optional_overflows-requires
    returns-then-optional_overflows
    optional_overflows-requires-2
    returns-then-optional_overflows-2
    interrupts_overflow-requires
    returns)
