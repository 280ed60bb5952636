-- Laws of the task writer's answer: its row 11 by parts, and the answer and the buffer in each of the three cases.
-- Assumes nothing.
use Rattle.std.specs.Prelude.{Err, Ok}
use Prim.Native.Nat.{ℕ, suc, ◌≤◌, ◌<◌}
use mathlib.Core.Path.{◌≡◌, refl, sym, ◌∙◌, ap}
use mathlib.Core.Bool.{Bool, true, false, not, cond, ◌||◌}
use mathlib.Core.List.{List, [], ◌∷◌}
use lib.Dec.{eqb, eqb-suc-zero}
use lib.ListN.{length}
use borrow.Author.Tests.{lt-ltb, le-ltb}
use Rattle.laws.proofs.Tests.{or_left, or_right}
use Rattle.refusals.specs.declared.Refusal.TheVariants.{Ask, Room}
use Rattle.refusals.specs.Refused.{Written}
use Rattle.tasks.specs.declared.set.TaskSet.{TaskSet}
use Rattle.tasks.specs.Set.{members, interrupts_in}
use Rattle.tasks.specs.Search.{some, first_from}
use Rattle.taskrows.specs.Rows.{board_row, range_row, interrupt_row}
use Rattle.taskask.specs.Ask.{ask_row}
use Rattle.taskwrite.specs.Write.{writer_asks, write_of}
use Rattle.tasktext.specs.Text.{text_of}
use Rattle.refusals.specs.Leaves.{leaves}

-- there is a first task for which a test holds where some task meets it
pub first_some : {A : Type 0} (p : A → Bool) (k : ℕ) (ts : List A) → not (eqb (first_from p (suc k) ts) 0) ≡ some p ts
unfolding first_from some
first_some p k [] = refl
first_some p k (t ∷ ts) = go (p t) (first_some p (suc k) ts)
  where
    go : (b : Bool) → not (eqb (first_from p (suc (suc k)) ts) 0) ≡ some p ts → not (eqb (cond b (suc k) (first_from p (suc (suc k)) ts)) 0) ≡ (b || some p ts)
    go true e = ap not (eqb-suc-zero k)
    go false e = e

-- row 11 of the writer, by the answers of its parts
pub writer_rows : (set : TaskSet) {a b c d : Bool} → ask_row set ≡ a → board_row set.header ≡ b → some range_row (members set) ≡ c → some (interrupt_row set.header.processors) (interrupts_in set) ≡ d → writer_asks set ≡ (a || (b || (c || d)))
unfolding writer_asks
writer_rows set p q r t = rw (p, q, r, t)

-- a set that the writer takes breaks none of them
pub writer_ask : (set : TaskSet) → writer_asks set ≡ false → ask_row set ≡ false
unfolding writer_asks
writer_ask set p = or_left (ask_row set) _ p

pub writer_board : (set : TaskSet) → writer_asks set ≡ false → board_row set.header ≡ false
unfolding writer_asks
writer_board set p = or_left (board_row set.header) _ (or_right (ask_row set) _ p)

past_board : (set : TaskSet) → writer_asks set ≡ false → (some range_row (members set) || some (interrupt_row set.header.processors) (interrupts_in set)) ≡ false
unfolding writer_asks
past_board set p = or_right (board_row set.header) _ (or_right (ask_row set) _ p)

pub writer_range : (set : TaskSet) → writer_asks set ≡ false → some range_row (members set) ≡ false
writer_range set p = or_left (some range_row (members set)) _ (past_board set p)

pub writer_interrupts : (set : TaskSet) → writer_asks set ≡ false → some (interrupt_row set.header.processors) (interrupts_in set) ≡ false
writer_interrupts set p = or_right (some range_row (members set)) _ (past_board set p)

-- the answer where row 11 holds, where row 12 does, and where neither does
module _ (set : TaskSet) (buffer : List ℕ) where
  pub write_ask : writer_asks set ≡ true → write_of set buffer ≡ Err Ask
  unfolding write_of
  write_ask p = rw p

  pub write_room : writer_asks set ≡ false → length buffer < length (text_of set) → write_of set buffer ≡ Err Room
  unfolding write_of
  write_room p h = rw (p, lt-ltb (length buffer) (length (text_of set)) h)

  pub write_bytes : writer_asks set ≡ false → length (text_of set) ≤ length buffer → write_of set buffer ≡ Ok (length (text_of set))
  unfolding write_of
  write_bytes p h = rw (p, le-ltb (length buffer) (length (text_of set)) h)

  -- an answer and what the buffer holds after it
  pub answered : (w : Written) (left : List ℕ) → write_of set buffer ≡ w → left ≡ leaves w buffer (text_of set) → (w ≡ write_of set buffer) × (left ≡ leaves (write_of set buffer) buffer (text_of set))
  answered w left e f = (sym e, f ∙ sym (ap (λ (v : Written). leaves v buffer (text_of set)) e))
