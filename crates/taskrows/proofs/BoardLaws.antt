-- What a board has that row 5 lets pass.
-- Assumes nothing.
use Prim.Native.Nat.{◌≤◌}
use native.Mathlib.Omega.{arith}
use mathlib.Core.Bool.{Bool, true, false, not, ◌&&◌, ◌||◌}
use mathlib.Core.Path.{◌≡◌}
use lib.Dec.{leb, ltb, eqb}
use borrow.Author.Tests.{leb-true, ltb-false, eqb-false, not-false}
use Rattle.laws.proofs.Tests.{and_left, and_right, or_left, or_right}
use Rattle.tasks.specs.declared.set.Header.{Header}
use Rattle.tasks.specs.Set.{most_processors, last_rule, rule_number}
use Rattle.taskrows.specs.Rows.{board_row}

module _ (h : Header) where
  abbrev within : Bool
  within = leb 1 h.processors && leb h.processors most_processors

  processors_pass : board_row h ≡ false → within ≡ true
  unfolding board_row
  processors_pass pass = not-false within (or_left (not within) _ pass)

  past_processors : board_row h ≡ false → (eqb h.slot 0 || ltb last_rule (rule_number h)) ≡ false
  unfolding board_row
  past_processors pass = or_right (not within) _ pass

  -- 1 to 64 processors
  pub board_some : board_row h ≡ false → 1 ≤ h.processors
  board_some pass = leb-true 1 h.processors (and_left (leb 1 h.processors) _ (processors_pass pass))

  pub board_processors : board_row h ≡ false → h.processors ≤ most_processors
  board_processors pass = leb-true h.processors most_processors (and_right (leb 1 h.processors) _ (processors_pass pass))

  -- a slot of at least 1 tick
  pub board_slot : board_row h ≡ false → 1 ≤ h.slot
  board_slot pass = omega (arith, eqb-false h.slot 0 (or_left (eqb h.slot 0) _ (past_processors pass)))

  -- one of the nine rules
  pub board_rule : board_row h ≡ false → rule_number h ≤ last_rule
  board_rule pass = ltb-false last_rule (rule_number h) (or_right (eqb h.slot 0) _ (past_processors pass))
