-- The interrupts of a set that all stand on its processors: how many they are, and that their numbers are those of the set's board.
-- Assumes nothing.
use Prim.Native.Nat.{ℕ, ◌*◌, ◌≤◌}
use mathlib.Core.Path.{◌≡◌, ap, ◌∙◌}
use mathlib.Core.List.{List, []}
use native.Mathlib.Omega.{arith}
use lib.ListN.{length, take}
use lib.Seq.{length-take-le}
use Rattle.interrupting.specs.Interrupts.{Bound, bound_numbers}
use Rattle.tasks.specs.declared.set.TaskSet.{TaskSet}
use Rattle.tasks.specs.Set.{interrupts_in}
use Rattle.members.specs.Server.{board_of}
use Rattle.byprocessor.specs.Interrupts.{by_processor, interrupt_numbers}
use Rattle.byprocessor.proofs.GroupLaws.{On, Each, by_none, by_all}
use Rattle.byprocessor.proofs.NumberLaws.{bounds_all, numbers_front}
use Rattle.setfigures.specs.Board.{set_interrupts, set_board}

module _ (set : TaskSet) where
  -- their numbers give the board
  pub board_back : board_of set.header (bound_numbers (set_interrupts set)) ≡ set_board set
  board_back = ap (λ (bs : List Bound). record { header = set.header; interrupts = bs }) (bounds_all (set_interrupts set))

  -- without interrupts it has none
  pub board_none : set.interrupts.count ≡ 0 → set_interrupts set ≡ []
  unfolding set_interrupts
  board_none e = ap (λ (n : ℕ). by_processor set.header.processors (take n set.interrupts.each)) e ∙ by_none set.header.processors

  module _ (room : set.interrupts.count ≤ length set.interrupts.each) where
    -- as many as the set counts
    pub counted_length : length (interrupts_in set) ≡ set.interrupts.count
    counted_length = length-take-le set.interrupts.count set.interrupts.each room

    module _ (on : Each (On set.header.processors) (interrupts_in set)) where
      -- none is left out
      pub interrupts_length : length (set_interrupts set) ≡ set.interrupts.count
      unfolding set_interrupts
      interrupts_length = by_all set.header.processors (interrupts_in set) on ∙ counted_length

      -- their numbers stand at the front
      pub interrupts_front : {numbers : List ℕ} {end : ℕ} → numbers ≡ interrupt_numbers (set_interrupts set) → end ≡ 4 * set.interrupts.count →
          take end numbers ≡ bound_numbers (set_interrupts set)
      interrupts_front {end = end} e k = ap (take end) e ∙ numbers_front (set_interrupts set) (let all : end ≡ 4 * length (set_interrupts set) = omega (arith, k, interrupts_length) in all)
