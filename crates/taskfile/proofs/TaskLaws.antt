-- Laws of a task's line: of which of its two kinds it is, and of no other.
-- Assumes nothing.
use Rattle.std.specs.Prelude.{None, Some}
use Prim.Native.Nat.{ℕ, zero, suc, ◌≤◌, ◌<◌}
use native.Mathlib.Omega.{arith}
use mathlib.Core.Bool.{Bool, true, false, cond, ◌||◌, or-false, or-true}
use mathlib.Core.List.{List, []}
use mathlib.Core.Logic.{⊎_elim}
use mathlib.Core.Path.{◌≡◌, refl, sym, ◌∙◌, ap}
use lib.Dec.{eqb}
use Rattle.laws.proofs.Tests.{or_either, or_neither}
use Rattle.frameread.specs.Line.{formed, closed, field_of}
use Rattle.frameread.proofs.KindLaws.{not_formed}
use Rattle.frames.specs.Table.{widths_of, width_of, index_of, length_of, sum}
use Rattle.frames.specs.declared.table.Frame.{Frame}
use Rattle.taskframe.specs.Frames.{frame_by, task_frame}
use Rattle.taskfile.specs.File.{task_formed, task_kind, cache_at, task_at}

-- where no line is left, there is none
pub task_nowhere : task_formed [] ≡ false
unfolding task_formed formed closed
task_nowhere = refl

-- a line of either kind is a task's
pub task_plain : (text : List ℕ) → formed Frame.Task text ≡ true → task_formed text ≡ true
unfolding task_formed
task_plain text f = rw f

pub task_cached : (text : List ℕ) → formed Frame.Cached text ≡ true → task_formed text ≡ true
unfolding task_formed
task_cached text f = rw f (or-true (formed Frame.Task text))

-- a line of another kind is none
pub no_task_line : (kind : Frame) → eqb (index_of kind) 1 ≡ false → eqb (index_of kind) 2 ≡ false → (text : List ℕ) → formed kind text ≡ true → task_formed text ≡ false
unfolding task_formed
no_task_line kind plain cached text f = or_neither (not_formed kind Frame.Task plain text f) (not_formed kind Frame.Cached cached text f)

module _ (text : List ℕ) (task : task_formed text ≡ true) where
  -- a task's line is of its kind, and of none of the others
  pub task_formed_lem : formed (task_kind text) text ≡ true
  unfolding task_kind task_formed
  task_formed_lem = by_kind (formed Frame.Cached text) refl
    where
      by_kind : (b : Bool) → formed Frame.Cached text ≡ b → formed (cond b Frame.Cached Frame.Task) text ≡ true
      by_kind true e = e
      by_kind false e = sym (or-false (formed Frame.Task text)) ∙ ap (λ (c : Bool). formed Frame.Task text || c) (sym e) ∙ task

  pub of_kind_lem : {frame : Frame} → frame ≡ task_kind text → formed frame text ≡ true
  of_kind_lem e = ap (λ (frame : Frame). formed frame text) e ∙ task_formed_lem

  pub task_apart : (kind : Frame) → eqb 1 (index_of kind) ≡ false → eqb 2 (index_of kind) ≡ false → formed kind text ≡ false
  unfolding task_formed
  task_apart kind plain cached =
      ⊎_elim
      (not_formed Frame.Task kind plain text)
      (not_formed Frame.Cached kind cached text)
      (or_either (formed Frame.Task text) (formed Frame.Cached text) task)

-- the kind by what the line is
pub kind_plain : (text : List ℕ) → formed Frame.Task text ≡ true → task_kind text ≡ Frame.Task
unfolding task_kind
kind_plain text f = rw (not_formed Frame.Task Frame.Cached refl text f)

pub kind_cached : (text : List ℕ) → formed Frame.Cached text ≡ true → task_kind text ≡ Frame.Cached
unfolding task_kind
kind_cached text f = rw f

-- and what it gives as the cache cost
pub cache_given : (text : List ℕ) → formed Frame.Cached text ≡ true → cache_at text ≡ Some (field_of Frame.Cached 4 text)
unfolding cache_at
cache_given text f = rw f

pub cache_absent : (text : List ℕ) → formed Frame.Cached text ≡ false → cache_at text ≡ None
unfolding cache_at
cache_absent text f = rw f

-- the set remembers the kind
pub frame_kind : (text : List ℕ) → task_frame (task_at text) ≡ task_kind text
unfolding task_at cache_at task_kind
frame_kind text = by_kind (formed Frame.Cached text)
  where
    by_kind : (b : Bool) → frame_by (cond b (Some (field_of Frame.Cached 4 text)) None) ≡ cond b Frame.Cached Frame.Task
    by_kind true = refl
    by_kind false = refl

-- 03 is the longer
pub kind_most : (text : List ℕ) → length_of (task_kind text) ≤ length_of Frame.Cached
unfolding task_kind widths_of sum
kind_most text = by_kind (formed Frame.Cached text)
  where
    by_kind : (b : Bool) → length_of (cond b Frame.Cached Frame.Task) ≤ length_of Frame.Cached
    by_kind true = omega arith
    by_kind false = omega arith

-- both have the fields of 02, at their widths
pub kind_width : (text : List ℕ) (k : ℕ) → k < 4 → width_of (task_kind text) k ≡ width_of Frame.Task k
unfolding task_kind widths_of
kind_width text k lt = by_kind (formed Frame.Cached text) k lt
  where
    by_kind : (b : Bool) (k : ℕ) → k < 4 → width_of (cond b Frame.Cached Frame.Task) k ≡ width_of Frame.Task k
    by_kind false k lt = refl
    by_kind true zero lt = refl
    by_kind true (suc zero) lt = refl
    by_kind true (suc (suc zero)) lt = refl
    by_kind true (suc (suc (suc zero))) lt = refl
    by_kind true (suc (suc (suc (suc k)))) lt = absurd (omega arith)
