-- How reading the 02 and 03 lines goes on: from the lines before the tasks, over each task, to a line that is none.
-- Assumes nothing.
use Rattle.std.specs.Prelude.{Err, Ok, Result}
use Prim.Native.Nat.{ℕ, suc, ◌+◌, ◌≤◌, ◌<◌}
use native.Mathlib.Omega.{arith}
use native.Mathlib.Numerals.{add-one}
use mathlib.Core.List.{List, [], ◌∷◌, ◌++◌, map-append}
use mathlib.Core.Bool.{true, false}
use mathlib.Core.Logic.{⊎_elim}
use mathlib.Core.Path.{◌≡◌, sym, ◌∙◌, ap}
use lib.ListN.{length, drop, take, set as put, length-append, length-set, drop_of_length-le}
use lib.Seq.{take-suc-set}
use Rattle.laws.proofs.Tests.{true_false}
use Rattle.frameread.specs.Line.{formed}
use Rattle.frames.specs.Table.{length_of}
use Rattle.frames.specs.declared.table.Frame.{Frame}
use Rattle.refusals.specs.declared.Refusal.{Refusal}
use Rattle.refusals.specs.Refused.{Outcome}
use Rattle.refusals.proofs.FirstLaws.{done_refused, till_suc}
use Rattle.tasks.specs.declared.set.Task.{Task}
use Rattle.tasks.specs.declared.set.TaskSet.{TaskSet}
use Rattle.tasks.specs.Set.{most_tasks, interrupts_with, set_of, zero_set, with_task}
use Rattle.tasks.proofs.SetLaws.{set_more}
use Rattle.taskframe.specs.Frames.{task_frame}
use Rattle.taskfile.specs.File.{past, empty, line_outcome, file_header, opening_lines, task_formed, task_kind, task_at, interrupt_at, tasks_among, interrupts_among}
use Rattle.taskfile.specs.Taken.{Taken, Tasked, BehindTasks, ids_of}
use Rattle.taskfile.proofs.Past.{past_formed}
use Rattle.taskfile.proofs.AmongLaws.{among_task, among_other}
use Rattle.taskfile.proofs.TaskLaws.{task_nowhere, of_kind_lem, frame_kind}
use Rattle.taskfile.proofs.Lines.{task_no_interrupt, interrupt_no_task, clear_header, clear_kind, clear_room}
use Rattle.taskfile.proofs.OpeningLaws.{taken_opening, among_opening, none_opening}
use Rattle.taskfile.proofs.Standing.{byte_there, taken_some}
use Rattle.lineanswer.specs.Answer.{line_or, of_line}
use Rattle.lineanswer.proofs.Answers.{of_line_lem, line_given, line_refused}
use Rattle.opening.specs.declared.Opening.{Opening}
use Rattle.opening.specs.Opening.{opening_of}
use Rattle.tasklines.specs.Ended.{Ended}

-- the reader's state after k lines: the cursor, the set that they hold, and its ids
pub record Held (text : List ℕ) (k at : ℕ) (set : TaskSet) (ids : List ℕ) : Type 0 where
  pub tasked : Tasked text k at
  pub all : set ≡ set_of (file_header text) (tasks_among text k) []
  pub room : length ids ≡ most_tasks
  pub listed : take set.count ids ≡ ids_of (tasks_among text k)

-- the set counts what the lines hold, which has room
pub held_count : {text : List ℕ} {k at : ℕ} {set : TaskSet} {ids : List ℕ} → Held text k at set ids → set.count ≡ length (tasks_among text k)
unfolding set_of
held_count held = ap (λ (s : TaskSet). s.count) held.all

pub held_few : {text : List ℕ} {k at : ℕ} {set : TaskSet} {ids : List ℕ} → Held text k at set ids → set.count ≤ most_tasks
held_few held = omega (arith, held_count held, held.tasked.taken.few)

-- ---- the lines before the tasks are taken

pub held_opening : (text : List ℕ) {opening : Opening} {set : TaskSet} {ids : List ℕ} → set ≡ zero_set → length ids ≡ most_tasks → line_outcome text 1 ≡ Ok tt → opening ≡ opening_of text → Held text opening.lines opening.at (record { header = opening.header; count = set.count; tasks = set.tasks; interrupts = set.interrupts }) ids
unfolding set_of interrupts_with opening_of
held_opening text zeroed room clear e =
    let header : formed Frame.Header text ≡ true = clear_header text clear in
    let none : tasks_among text (opening_lines text) ≡ [] = among_opening text header in
    rw (zeroed, e)
    (record {
      tasked = record { taken = taken_opening text header; none = none_opening text header };
      all = ap (λ (ts : List Task). set_of (file_header text) ts []) (sym none);
      room = room;
      listed = ap ids_of (sym none);
    })

-- ---- a task is taken

module _ {text : List ℕ} {k at : ℕ} {set : TaskSet} {ids : List ℕ} (t : Task) (held : Held text k at set ids) (within : at < length text) (other : formed Frame.Interrupt (drop at text) ≡ false) (e : line_or (line_outcome text (k + 1)) (task_at (drop at text)) ≡ Ok t) where
  line : line_outcome text (suc k) ≡ Ok tt
  line = ap (line_outcome text) (sym (add-one k)) ∙ (line_given (line_outcome text (k + 1)) (task_at (drop at text)) t e).0

  figures : t ≡ task_at (past k text)
  figures = (line_given (line_outcome text (k + 1)) (task_at (drop at text)) t e).1 ∙ ap task_at (sym held.tasked.taken.rest)

  task : task_formed (past k text) ≡ true
  task =
      ⊎_elim
      (λ (task : task_formed (past k text) ≡ true). task)
      (λ (interrupt : formed Frame.Interrupt (past k text) ≡ true). true_false (sym interrupt ∙ ap (formed Frame.Interrupt) held.tasked.taken.rest ∙ other))
      (clear_kind text k held.tasked.taken.opened (ap empty held.tasked.taken.rest ∙ byte_there at text within) line)

  count : set.count ≡ length (tasks_among text k)
  count = held_count held

  -- there is room for it
  pub task_room : set.count < most_tasks
  task_room =
      let full : length (tasks_among text k) ≡ most_tasks → ⊥ = clear_room text k (taken_some held.tasked.taken) task line in
      omega (arith, held.tasked.taken.few, count, full)

  more : tasks_among text (suc k) ≡ tasks_among text k ++ (t ∷ [])
  more = among_task text k task ∙ ap (λ (u : Task). tasks_among text k ++ (u ∷ [])) (sym figures)

  longer : length (tasks_among text (suc k)) ≡ length (tasks_among text k) + 1
  longer = ap length more ∙ length-append (tasks_among text k) (t ∷ [])

  none_more : interrupts_among text (suc k) ≡ []
  none_more = among_other (formed Frame.Interrupt) interrupt_at text k (task_no_interrupt (past k text) task) ∙ held.tasked.none

  -- the line is of the kind that the task remembers
  kind : task_frame t ≡ task_kind (drop at text)
  kind = ap task_frame (line_given (line_outcome text (k + 1)) (task_at (drop at text)) t e).1 ∙ frame_kind (drop at text)

  taken_more : Taken text (suc k) (at + (length_of (task_frame t) + 1))
  taken_more =
      let passed = past_formed (task_frame t) text k at held.tasked.taken.rest held.tasked.taken.within (of_kind_lem (drop at text) (ap task_formed (sym held.tasked.taken.rest) ∙ task) kind) in
      record {
        opened = omega (arith, held.tasked.taken.opened);
        within = passed.1;
        rest = passed.0;
        clear = till_suc (line_outcome text) k ∙ rw held.tasked.taken.clear line;
        lines = omega (arith, longer, ap length held.tasked.none, held.tasked.taken.lines);
        few = omega (arith, longer, task_room, count);
        fewer = omega (arith, ap length none_more);
      }

  listed_more : take (set.count + 1) (put ids set.count t.id) ≡ ids_of (tasks_among text (suc k))
  listed_more =
      ap (λ (n : ℕ). take n (put ids set.count t.id)) (add-one set.count)
      ∙ take-suc-set ids set.count t.id (omega (arith, task_room, held.room))
      ∙ ap (λ (l : List ℕ). l ++ (t.id ∷ [])) held.listed
      ∙ sym (ap ids_of more ∙ map-append (λ (u : Task). u.id) (tasks_among text k) (t ∷ []))

  pub held_task : Held text (k + 1) (at + (length_of (task_frame t) + 1)) (with_task set t) (put ids set.count t.id)
  held_task =
      rw (add-one k)
      (record {
        tasked = record { taken = taken_more; none = none_more };
        all = ap (λ (s : TaskSet). with_task s t) held.all ∙ set_more (file_header text) (tasks_among text k) [] t (omega (arith, task_room, count)) ∙ ap (λ (ts : List Task). set_of (file_header text) ts []) (sym more);
        room = length-set ids set.count t.id ∙ held.room;
        listed = listed_more;
      })

-- ---- no more is taken

-- at the end of the text, or before an 07 line
pub held_over : {text : List ℕ} {k at : ℕ} {set : TaskSet} {ids : List ℕ} → Held text k at set ids → length text ≤ at → BehindTasks text k at
held_over {text = text} held over =
    record { taken = held.tasked.taken; late = λ task. true_false (sym task ∙ ap task_formed (drop_of_length-le text over) ∙ task_nowhere) }

pub held_before : {text : List ℕ} {k at : ℕ} {set : TaskSet} {ids : List ℕ} → Held text k at set ids → formed Frame.Interrupt (drop at text) ≡ true → BehindTasks text k at
held_before {text = text} {at = at} held interrupt =
    record { taken = held.tasked.taken; late = λ task. true_false (sym task ∙ interrupt_no_task (drop at text) interrupt) }

pub ended_done : {text : List ℕ} {k at : ℕ} {set : TaskSet} {ids : List ℕ} → Held text k at set ids → BehindTasks text k at → Ended text (record { outcome = Ok tt; set = set; at = at; lines = k })
ended_done held over = record { tasked = held.tasked; all = held.all; done = λ e. over; refused = λ why e. done_refused e }

-- or before a line that is refused
pub ended_refused : {text : List ℕ} {k at : ℕ} {set : TaskSet} {ids : List ℕ} {line : Result Task Refusal} {o : Outcome} → Held text k at set ids → (r : Refusal) → line ≡ line_or (line_outcome text (k + 1)) (task_at (drop at text)) → line ≡ Err r → o ≡ of_line line → Ended text (record { outcome = o; set = set; at = at; lines = k })
ended_refused {text = text} {k = k} {at = at} {o = o} held r said refused told =
    let next : o ≡ line_outcome text (k + 1) = told ∙ ap of_line said ∙ of_line_lem (line_outcome text (k + 1)) (task_at (drop at text)) in
    record {
      tasked = held.tasked;
      all = held.all;
      done = λ e. absurd (line_refused (line_outcome text (k + 1)) (task_at (drop at text)) r (sym said ∙ refused) (sym next ∙ e));
      refused = λ why e. sym next ∙ e;
    }
