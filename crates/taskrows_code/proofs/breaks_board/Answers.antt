-- `breaks_board` meets its contract: each way out is told by the tests that led there.
use mathlib.Core.Path.{ap}
use lib.Dec.{ltb}
use borrow.Author.Tests.{lt-leb, le-leb, eq-eqb, ne_eqb}
use Rattle.tasks.specs.Set.{last_rule}
use Rattle.taskrows.specs.Rows.{board_row}
use Rattle.taskrows_code.proofs.breaks_board.Goals as goal

pub returns-then-no_processor : goal.returns-then-no_processor
unfolding board_row
returns-then-no_processor c = simp (lt-leb _ _ c.if-no_processor.true)

pub returns-then-header-gt-MOST_PROCESSORS : goal.returns-then-header-gt-MOST_PROCESSORS
unfolding board_row
returns-then-header-gt-MOST_PROCESSORS c = simp (le-leb _ _ c.if-no_processor.false, lt-leb _ _ c.if-header-gt-MOST_PROCESSORS.true)

pub returns-then-no_slot : goal.returns-then-no_slot
unfolding board_row
returns-then-no_slot c =
    simp (le-leb _ _ c.if-no_processor.false, le-leb _ _ c.if-header-gt-MOST_PROCESSORS.false, eq-eqb _ _ c.if-no_slot.true)

pub returns : goal.returns
unfolding board_row
returns c =
    simp (le-leb _ _ c.if-no_processor.false, le-leb _ _ c.if-header-gt-MOST_PROCESSORS.false, ne_eqb _ _ c.if-no_slot.false) (ap (ltb last_rule) c.rule_number.ensures)
