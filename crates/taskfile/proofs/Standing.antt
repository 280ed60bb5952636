-- What the reader learns at the cursor, after some lines.
-- Assumes nothing.
use Rattle.std.specs.Prelude.{Err, Ok}
use Prim.Native.Nat.{ℕ, zero, suc, ◌+◌, ◌≤◌, ◌<◌, ◌^◌}
use native.Mathlib.Omega.{arith}
use native.Mathlib.Numerals.{add-one}
use mathlib.Core.List.{List, [], ◌∷◌, map}
use mathlib.Core.Bool.{Bool, true, false, ◌||◌}
use mathlib.Core.Logic.{◌⊎◌, inl, inr, ⊎_elim}
use mathlib.Core.Path.{◌≡◌, refl, sym, ◌∙◌, ap, subst}
use lib.ListN.{length, drop, get_or, length-map}
use lib.Dec.{eqb}
use borrow.Author.Tests.{eq-eqb, ne_eqb}
use Rattle.laws.proofs.Tests.{or_neither}
use Rattle.frameread.specs.Line.{formed, field_of}
use types.Run.{OneOf, miss}
use denote.Enum.Declared.{tag_of}
use Rattle.frames.specs.contracts.table.Frame.{the_type}
use Rattle.frames.specs.Table.{width_of, index_of, all_frames}
use Rattle.frames.proofs.Tables.{at_index}
use Rattle.frameread.proofs.KindLaws.{not_formed}
use Rattle.frames.specs.declared.table.Frame.{Frame}
use Rattle.refusals.specs.declared.Refusal.TheVariants.{Line, Order, Count, Twice}
use Rattle.refusals.specs.First.{first_of, when}
use Rattle.frameread.proofs.Formed.{field_below}
use Rattle.tasks.specs.declared.set.Task.{Task}
use Rattle.tasks.specs.Set.{most_tasks, most_interrupts, has_id}
use Rattle.tasks.specs.Search.{some}
use Rattle.taskfile.specs.File.{past, empty, file_kinds, admitted, line_outcome, tasks_among, interrupts_among, task_formed, task_kind, task_at}
use Rattle.taskfile.specs.Taken.{Taken, Tasked, BehindTasks, ids_of}
use Rattle.taskfile.proofs.TaskLaws.{task_plain, task_cached, of_kind_lem, kind_plain, kind_cached, kind_width}
use Rattle.taskfile.proofs.Lines.{neither, some_opening, first_kind, line_other, later_header, later_masked, later_rule, later_task, late_task_lem, later_interrupt}

-- a number that is a field of a formed line is below its width's power of 16
pub field_within : (frame : Frame) (k x : ℕ) (text : List ℕ) → formed frame text ≡ true → x ≡ field_of frame k text → x < 16 ^ width_of frame k
field_within frame k x text f e = subst (λ (n : ℕ). n < 16 ^ width_of frame k) (sym e) (field_below frame text f k)

-- and so are those of a task's line, whichever kind it is of
pub task_within : (frame : Frame) (k x : ℕ) (text : List ℕ) → task_formed text ≡ true → frame ≡ task_kind text → k < 4 → x ≡ field_of frame k text → x < 16 ^ width_of Frame.Task k
task_within frame k x text task kind lt e =
    subst (λ (w : ℕ). x < 16 ^ w) (ap (λ (f : Frame). width_of f k) kind ∙ kind_width text k lt) (field_within frame k x text (of_kind_lem text task kind) e)

-- a place within a text is followed by a byte
pub byte_there : (at : ℕ) (text : List ℕ) → at < length text → empty (drop at text) ≡ false
byte_there at [] lt = absurd (omega arith)
byte_there zero (b ∷ bs) lt = refl
byte_there (suc at) (b ∷ bs) lt = byte_there at bs (omega arith)

-- a frame's tag is its index in the table
tag_index : (frame : Frame) → tag_of the_type frame ≡ index_of frame
tag_index Frame.Header = refl
tag_index Frame.Task = refl
tag_index Frame.Cached = refl
tag_index Frame.Masked = refl
tag_index Frame.Rule = refl
tag_index Frame.Interrupt = refl
tag_index Frame.Plan = refl
tag_index Frame.Server = refl
tag_index Frame.Placed = refl
tag_index Frame.Processor = refl
tag_index Frame.Refused = refl
tag_index Frame.Switch = refl
tag_index Frame.Accepted = refl
tag_index Frame.Met = refl

-- so a frame is told by its tag
tag_frame : (frame kind : Frame) → tag_of the_type frame ≡ index_of kind → frame ≡ kind
tag_frame frame kind e =
    sym (at_index (λ (f : Frame). f) frame frame)
    ∙ ap (λ (n : ℕ). get_or (map (λ (f : Frame). f) all_frames) n frame) (sym (tag_index frame) ∙ e)
    ∙ at_index (λ (f : Frame). f) frame kind

pub tag_formed : (frame kind : Frame) (text : List ℕ) → tag_of the_type frame ≡ index_of kind → formed frame text ≡ true → formed kind text ≡ true
tag_formed frame kind text e f = ap (λ (g : Frame). formed g text) (sym (tag_frame frame kind e)) ∙ f

-- a line of a frame with the tag of 02 or of 03 is a task's, and that frame is its kind
pub tag_task : (frame : Frame) (text : List ℕ) → (tag_of the_type frame ≡ 1) ⊎ (tag_of the_type frame ≡ 2) → formed frame text ≡ true → (task_formed text ≡ true) × (frame ≡ task_kind text)
tag_task frame text o f =
    ⊎_elim
    (λ (e : tag_of the_type frame ≡ 1). let plain = tag_formed frame Frame.Task text e f in (task_plain text plain, tag_frame frame Frame.Task e ∙ sym (kind_plain text plain)))
    (λ (e : tag_of the_type frame ≡ 2). let cached = tag_formed frame Frame.Cached text e f in (task_cached text cached, tag_frame frame Frame.Cached e ∙ sym (kind_cached text cached)))
    o

-- a line of a frame with one of these tags is of no kind whose tag is none of them
pub other_kind : (tags : List ℕ) (frame kind : Frame) (text : List ℕ) → OneOf tags (tag_of the_type frame) → (OneOf tags (index_of kind) → ⊥) → formed frame text ≡ true → formed kind text ≡ false
other_kind tags frame kind text o missed f =
    not_formed frame kind (ne_eqb (index_of frame) (index_of kind) (λ (e : index_of frame ≡ index_of kind). missed (subst (OneOf tags) (tag_index frame ∙ e) o))) text f

-- a line of a frame with the tag of any kind of a task file but the first is ORDER at line 1
pub first_said : (frame : Frame) (text : List ℕ) → formed frame text ≡ true → OneOf (1 ∷ 2 ∷ 3 ∷ 4 ∷ 5 ∷ []) (tag_of the_type frame) → line_outcome text 1 ≡ Err (Order 1)
first_said frame text f o =
    ⊎_elim
    (said Frame.Task refl (omega arith))
    (⊎_elim
    (said Frame.Cached refl (omega arith))
    (⊎_elim
    (said Frame.Masked refl (omega arith))
    (⊎_elim
    (said Frame.Rule refl (omega arith))
    (said Frame.Interrupt refl (omega arith)))))
    o
  where
    said : (kind : Frame) → eqb (index_of kind) 0 ≡ false → index_of kind < length file_kinds → tag_of the_type frame ≡ index_of kind → line_outcome text 1 ≡ Err (Order 1)
    said kind other lt e = first_kind kind other lt text (tag_formed frame kind text e f)

-- the tags of the frames behind the first n
abbrev tags_from : ℕ → List ℕ
tags_from n = drop n (map index_of all_frames)

-- a line of a frame that is none of a task file's is of no kind that it admits
pub other_frame : (frame : Frame) (text : List ℕ) → OneOf (tags_from 6) (tag_of the_type frame) → formed frame text ≡ true → admitted text ≡ false
unfolding task_formed
other_frame frame text o f = neither text (apart Frame.Header (miss (tags_from 6) 0 tt)) (or_neither (apart Frame.Task (miss (tags_from 6) 1 tt)) (apart Frame.Cached (miss (tags_from 6) 2 tt))) (apart Frame.Masked (miss (tags_from 6) 3 tt)) (apart Frame.Rule (miss (tags_from 6) 4 tt)) (apart Frame.Interrupt (miss (tags_from 6) 5 tt))
  where
    apart : (kind : Frame) → (OneOf (tags_from 6) (index_of kind) → ⊥) → formed kind text ≡ false
    apart kind missed = other_kind (tags_from 6) frame kind text o missed f

-- and one that is none of the first five kinds and no 07 line
pub other_task : (frame : Frame) (text : List ℕ) → OneOf (tags_from 5) (tag_of the_type frame) → formed frame text ≡ true → formed Frame.Interrupt text ≡ false → admitted text ≡ false
unfolding task_formed
other_task frame text o f = neither text (apart Frame.Header (miss (tags_from 5) 0 tt)) (or_neither (apart Frame.Task (miss (tags_from 5) 1 tt)) (apart Frame.Cached (miss (tags_from 5) 2 tt))) (apart Frame.Masked (miss (tags_from 5) 3 tt)) (apart Frame.Rule (miss (tags_from 5) 4 tt))
  where
    apart : (kind : Frame) → (OneOf (tags_from 5) (index_of kind) → ⊥) → formed kind text ≡ false
    apart kind missed = other_kind (tags_from 5) frame kind text o missed f

-- an id is among tasks' ids exactly if a task has it
pub some_ids : (id : ℕ) (ts : List Task) → some (λ i. eqb i id) (ids_of ts) ≡ some (has_id id) ts
unfolding some
some_ids id [] = refl
some_ids id (t ∷ ts) = ap (λ (b : Bool). eqb t.id id || b) (some_ids id ts)

module _ {text : List ℕ} {k at : ℕ} (taken : Taken text k at) where
  pub said_line : at < length text → admitted (drop at text) ≡ false → line_outcome text (k + 1) ≡ Err (Line (k + 1))
  said_line lt other =
      rw (add-one k) (line_other text k (ap empty taken.rest ∙ byte_there at text lt) (ap admitted taken.rest ∙ other))

  -- a line is taken, the first
  pub taken_some : 1 ≤ k
  taken_some = omega (arith, some_opening text, taken.opened)

  -- an 01, a 05 or a 06 line comes too late
  pub said_order : (frame : Frame) → formed frame (drop at text) ≡ true → OneOf (0 ∷ 3 ∷ 4 ∷ []) (tag_of the_type frame) → line_outcome text (k + 1) ≡ Err (Order (k + 1))
  said_order frame f o =
      rw (add-one k)
      (⊎_elim
      (λ (e : tag_of the_type frame ≡ 0). later_header text k taken_some (here Frame.Header e))
      (⊎_elim
      (λ (e : tag_of the_type frame ≡ 3). later_masked text k taken.opened (here Frame.Masked e))
      (λ (e : tag_of the_type frame ≡ 4). later_rule text k taken.opened (here Frame.Rule e)))
      o)
    where
      here : (kind : Frame) → tag_of the_type frame ≡ index_of kind → formed kind (past k text) ≡ true
      here kind e = ap (formed kind) taken.rest ∙ tag_formed frame kind (drop at text) e f

  -- an 07 line is clear but for a 33rd
  module _ (interrupt : formed Frame.Interrupt (drop at text) ≡ true) (count : ℕ) (held : count ≡ length (interrupts_among text k)) where
    said_interrupt : line_outcome text (k + 1) ≡ when (eqb count most_interrupts) (Count (k + 1))
    said_interrupt = rw (add-one k, held) (later_interrupt text k taken_some (ap (formed Frame.Interrupt) taken.rest ∙ interrupt))

    pub said_full : count ≡ most_interrupts → line_outcome text (k + 1) ≡ Err (Count (k + 1))
    said_full full = rw (eq-eqb count most_interrupts full) at said_interrupt

    pub said_done : (count ≡ most_interrupts → ⊥) → line_outcome text (k + 1) ≡ Ok tt
    said_done room = rw (ne_eqb count most_interrupts room) at said_interrupt

-- a task's line that comes too late
pub said_late : {text : List ℕ} {k at : ℕ} → BehindTasks text k at → task_formed (drop at text) ≡ true → line_outcome text (k + 1) ≡ Err (Order (k + 1))
said_late {text = text} {k = k} s task = rw (add-one k) (late_task_lem text k (taken_some s.taken) (s.late task) (ap task_formed s.taken.rest ∙ task))

-- and so does any line behind the tasks that is admitted and no 07 line
pub said_behind : {text : List ℕ} {k at : ℕ} → BehindTasks text k at → (frame : Frame) → formed frame (drop at text) ≡ true → OneOf (0 ∷ 1 ∷ 2 ∷ 3 ∷ 4 ∷ []) (tag_of the_type frame) → line_outcome text (k + 1) ≡ Err (Order (k + 1))
said_behind {text = text} {at = at} s frame f o =
    ⊎_elim
    (λ (e : tag_of the_type frame ≡ 0). said_order s.taken frame f (inl e))
    (⊎_elim
    (λ (e : tag_of the_type frame ≡ 1). said_late s (tag_task frame (drop at text) (inl e) f).0)
    (⊎_elim
    (λ (e : tag_of the_type frame ≡ 2). said_late s (tag_task frame (drop at text) (inr e) f).0)
    (λ (e : OneOf (3 ∷ 4 ∷ []) (tag_of the_type frame)). said_order s.taken frame f (inr e))))
    o

module _ {text : List ℕ} {k at : ℕ} (s : Tasked text k at) (task : task_formed (drop at text) ≡ true) (ids : List ℕ) (held : ids ≡ ids_of (tasks_among text k)) where
  said_task : line_outcome text (k + 1) ≡ first_of (when (eqb (length ids) most_tasks) (Count (k + 1))) (when (some (λ i. eqb i (task_at (drop at text)).id) ids) (Twice (k + 1)))
  said_task =
      rw (add-one k, held, some_ids (task_at (drop at text)).id (tasks_among text k), length-map, ← s.taken.rest)
      (later_task text k (taken_some s.taken) s.none (ap task_formed s.taken.rest ∙ task))

  pub said_count : length ids ≡ most_tasks → line_outcome text (k + 1) ≡ Err (Count (k + 1))
  said_count full = rw (eq-eqb (length ids) most_tasks full) at said_task

  pub said_twice : (length ids ≡ most_tasks → ⊥) → (b : Bool) → some (λ i. eqb i (task_at (drop at text)).id) ids ≡ b → line_outcome text (k + 1) ≡ when b (Twice (k + 1))
  said_twice room b seen = rw (ne_eqb (length ids) most_tasks room, seen) at said_task
