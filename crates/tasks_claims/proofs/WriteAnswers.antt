-- The writer's answer exactly when its rows say, what the buffer then holds, and that both are determined.
-- Assumes nothing.
use Rattle.std.specs.Prelude.{Err, Ok}
use Prim.Native.Nat.{ℕ, ◌+◌, ◌≤◌, ◌<◌}
use mathlib.Core.Path.{◌≡◌, refl, sym, ◌∙◌, ap}
use mathlib.Core.Logic.{◌⊎◌, inl, inr}
use mathlib.Core.Bool.{Bool, true, false}
use mathlib.Core.List.{List}
use native.Mathlib.Omega.{arith}
use lib.Dec.{ltb}
use lib.ListN.{length, take, drop}
use lib.Seq.{take_at, drop_at}
use borrow.Author.Tests.{ltb-true, ltb-false}
use Rattle.laws.proofs.Tests.{clash}
use Rattle.digits.specs.Stored.{stored}
use Rattle.refusals.specs.declared.Refusal.{Refusal}
use Rattle.refusals.specs.declared.Refusal.TheVariants.{Ask, Room}
use Rattle.refusals.specs.Refused.{Written}
use Rattle.digits.proofs.Stored.{stored_length}
use Rattle.tasks.specs.declared.set.TaskSet.{TaskSet}
use Rattle.tasktext.specs.Text.{text_of}
use Rattle.taskwrite.specs.Write.{writer_asks, write_of, Wrote}
use Rattle.refusals.specs.Leaves.{leaves}
use Rattle.tasks_claims.specs.Claims.{WritesExactly, WritesLeave, WriteDetermined}
use Rattle.taskwrite.proofs.WriteAsks.{write_ask, write_room, write_bytes}

-- one of three holds: row 11, row 12, neither
data Case (set : TaskSet) (before : List ℕ) : Type 0 where
  asked : writer_asks set ≡ true → Case set before
  short : writer_asks set ≡ false → length before < length (text_of set) → Case set before
  fits : writer_asks set ≡ false → length (text_of set) ≤ length before → Case set before

which : (set : TaskSet) (before : List ℕ) → Case set before
which set before = row (writer_asks set) refl
  where
    room : (b : Bool) → ltb (length before) (length (text_of set)) ≡ b → writer_asks set ≡ false → Case set before
    room true e p = short p (ltb-true _ _ e)
    room false e p = fits p (ltb-false _ _ e)

    row : (b : Bool) → writer_asks set ≡ b → Case set before
    row true e = asked e
    row false e = room (ltb (length before) (length (text_of set))) refl e

module _ (set : TaskSet) (before : List ℕ) where
  ask_only : Case set before → write_of set before ≡ Err Ask → writer_asks set ≡ true
  ask_only (asked p) e = p
  ask_only (short p h) e = let f : write_of set before ≡ Err Room = write_room set before p h in clash (cc)
  ask_only (fits p h) e = let f : write_of set before ≡ Ok (length (text_of set)) = write_bytes set before p h in clash (cc)

  room_only : Case set before → write_of set before ≡ Err Room → (writer_asks set ≡ false) × (length before < length (text_of set))
  room_only (asked p) e = let f : write_of set before ≡ Err Ask = write_ask set before p in clash (cc)
  room_only (short p h) e = (p, h)
  room_only (fits p h) e = let f : write_of set before ≡ Ok (length (text_of set)) = write_bytes set before p h in clash (cc)

  bytes_only : (n : ℕ) → Case set before → write_of set before ≡ Ok n → (writer_asks set ≡ false) × ((length (text_of set) ≤ length before) × (n ≡ length (text_of set)))
  bytes_only n (asked p) e = let f : write_of set before ≡ Err Ask = write_ask set before p in clash (cc)
  bytes_only n (short p h) e = let f : write_of set before ≡ Err Room = write_room set before p h in clash (cc)
  bytes_only n (fits p h) e = let f : write_of set before ≡ Ok (length (text_of set)) = write_bytes set before p h in (p, (h, (cc)))

  others_none : Case set before → (r : Refusal) → write_of set before ≡ Err r → (r ≡ Ask) ⊎ (r ≡ Room)
  others_none (asked p) r e = let f : write_of set before ≡ Err Ask = write_ask set before p in inl (cc)
  others_none (short p h) r e = let f : write_of set before ≡ Err Room = write_room set before p h in inr (cc)
  others_none (fits p h) r e = let f : write_of set before ≡ Ok (length (text_of set)) = write_bytes set before p h in clash (cc)

pub writes_exactly : WritesExactly
writes_exactly set before =
    record {
      ask = (ask_only set before (which set before), write_ask set before);
      room = (room_only set before (which set before), λ (h : (writer_asks set ≡ false) × (length before < length (text_of set))). write_room set before h.0 h.1);
      bytes = λ n. (
        bytes_only set before n (which set before),
        λ (h : (writer_asks set ≡ false) × ((length (text_of set) ≤ length before) × (n ≡ length (text_of set)))). write_bytes set before h.0 h.1.0 ∙ ap Ok (sym h.1.1),
      );
      others = others_none set before (which set before);
    }

-- a text stored at a buffer's start: itself, and what stood behind
start_take : (before text : List ℕ) (n : ℕ) → n ≡ length text → take n (stored before 0 text) ≡ text
unfolding stored
start_take before text n e = take_at text (drop (0 + length text) before) n (sym e)

start_drop : (before text : List ℕ) (n : ℕ) → n ≡ length text → drop n (stored before 0 text) ≡ drop n before
unfolding stored
start_drop before text n e =
    let k : 0 + length text ≡ n = omega arith in
    drop_at text (drop (0 + length text) before) n (sym e) ∙ ap (λ (m : ℕ). drop m before) k

module _ (set : TaskSet) (before left : List ℕ) (written : Written) (wrote : Wrote set before written left) where
  -- what an accepted write leaves
  accepted : (n : ℕ) → written ≡ Ok n → left ≡ stored before 0 (text_of set)
  accepted n e = wrote.1 ∙ ap (λ (w : Written). leaves w before (text_of set)) (sym wrote.0 ∙ e)

  refused : (r : Refusal) → written ≡ Err r → left ≡ before
  refused r e = wrote.1 ∙ ap (λ (w : Written). leaves w before (text_of set)) (sym wrote.0 ∙ e)

  long : (n : ℕ) → written ≡ Ok n → (length (text_of set) ≤ length before) × (n ≡ length (text_of set))
  long n e = (bytes_only set before n (which set before) (sym wrote.0 ∙ e)).1

  kept : (w : Written) → written ≡ w → length left ≡ length before
  kept (Ok n) e = ap length (accepted n e) ∙ stored_length before 0 (text_of set) (omega (arith, (long n e).0))
  kept (Err r) e = ap length (refused r e)

pub writes_leave : WritesLeave
writes_leave set before left written wrote =
    record {
      size = kept set before left written wrote written refl;
      text = λ n e. ap (take n) (accepted set before left written wrote n e) ∙ start_take before (text_of set) n (long set before left written wrote n e).1;
      behind = λ n e. ap (drop n) (accepted set before left written wrote n e) ∙ start_drop before (text_of set) n (long set before left written wrote n e).1;
      nothing = refused set before left written wrote;
    }

pub write_determined : WriteDetermined
write_determined set before left other a b p q = (p.0 ∙ sym q.0, p.1 ∙ sym q.1)
