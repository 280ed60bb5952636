-- How reading the 07 lines goes on: from the line behind the tasks, over each interrupt, to the end of the text or a line that is refused.
-- Assumes nothing.
use Rattle.std.specs.Prelude.{Ok}
use Prim.Native.Nat.{ℕ, suc, ◌+◌, ◌≤◌, ◌<◌}
use native.Mathlib.Omega.{arith}
use native.Mathlib.Numerals.{add-one}
use mathlib.Core.List.{List, [], ◌∷◌, ◌++◌}
use mathlib.Core.Bool.{true}
use mathlib.Core.Logic.{⊎_elim}
use mathlib.Core.Path.{◌≡◌, refl, sym, ◌∙◌, ap}
use lib.ListN.{length, drop, length-append, drop_of_length-le}
use Rattle.frameread.specs.Line.{formed}
use Rattle.frames.specs.Table.{length_of}
use Rattle.frames.specs.declared.table.Frame.{Frame}
use Rattle.refusals.specs.Refused.{Outcome}
use Rattle.refusals.proofs.FirstLaws.{done_refused, till_suc}
use Rattle.tasks.specs.declared.set.Interrupt.{Interrupt}
use Rattle.tasks.specs.declared.set.Interrupts.{Interrupts}
use Rattle.tasks.specs.Set.{most_interrupts, interrupts_with, with_interrupt, no_interrupts}
use Rattle.tasks.proofs.SetLaws.{with_none, interrupts_more}
use Rattle.taskfile.specs.File.{past, empty, line_outcome, task_formed, task_at, interrupt_at, tasks_among, interrupts_among}
use Rattle.taskfile.specs.Taken.{Taken, BehindTasks}
use Rattle.taskfile.proofs.Past.{past_formed}
use Rattle.taskfile.proofs.AmongLaws.{among_here, among_other}
use Rattle.taskfile.proofs.Lines.{interrupt_no_task, clear_kind, clear_fewer}
use Rattle.taskfile.proofs.Standing.{byte_there, taken_some, said_late}
use Rattle.interruptlines.specs.Ended.{Ended}

-- the reader's state after k lines: the cursor, and the interrupts that they hold; behind so many lines there was no task
pub record Listed (text : List ℕ) (before k at : ℕ) (is : Interrupts) : Type 0 where
  pub behind : BehindTasks text k at
  pub tasks : tasks_among text k ≡ tasks_among text before
  pub all : is ≡ interrupts_with (interrupts_among text k)

pub listed_none : {text : List ℕ} {before at : ℕ} {is : Interrupts} → BehindTasks text before at → interrupts_among text before ≡ [] → is ≡ no_interrupts → Listed text before before at is
listed_none behind none e =
    record {
      behind = behind;
      tasks = refl;
      all = e ∙ sym with_none ∙ ap interrupts_with (sym none);
    }

module _ {text : List ℕ} {before k at : ℕ} {is : Interrupts} (listed : Listed text before k at is) where
  abbrev taken : Taken text k at
  taken = listed.behind.taken

  pub listed_count : is.count ≡ length (interrupts_among text k)
  unfolding interrupts_with
  listed_count = ap (λ (is : Interrupts). is.count) listed.all

  -- ---- an interrupt is taken

  module _ (within : at < length text) (clear : line_outcome text (k + 1) ≡ Ok tt) where
    line : line_outcome text (suc k) ≡ Ok tt
    line = ap (line_outcome text) (sym (add-one k)) ∙ clear

    here : formed Frame.Interrupt (past k text) ≡ true
    here =
        ⊎_elim
        (λ (task : task_formed (past k text) ≡ true). done_refused (sym clear ∙ said_late listed.behind (ap task_formed (sym taken.rest) ∙ task)))
        (λ (interrupt : formed Frame.Interrupt (past k text) ≡ true). interrupt)
        (clear_kind text k taken.opened (ap empty taken.rest ∙ byte_there at text within) line)

    pub interrupt_there : formed Frame.Interrupt (drop at text) ≡ true
    interrupt_there = ap (formed Frame.Interrupt) (sym taken.rest) ∙ here

    -- there is room for it
    pub interrupt_room : is.count < most_interrupts
    interrupt_room =
        let full : length (interrupts_among text k) ≡ most_interrupts → ⊥ = clear_fewer text k (taken_some taken) here line in
        omega (arith, taken.fewer, listed_count, full)

    more : interrupts_among text (suc k) ≡ interrupts_among text k ++ (interrupt_at (past k text) ∷ [])
    more = among_here (formed Frame.Interrupt) interrupt_at text k here

    longer : length (interrupts_among text (suc k)) ≡ length (interrupts_among text k) + 1
    longer = ap length more ∙ length-append (interrupts_among text k) (interrupt_at (past k text) ∷ [])

    same_tasks : tasks_among text (suc k) ≡ tasks_among text k
    same_tasks = among_other task_formed task_at text k (interrupt_no_task (past k text) here)

    taken_more : Taken text (suc k) (at + (length_of Frame.Interrupt + 1))
    taken_more =
        let passed = past_formed Frame.Interrupt text k at taken.rest taken.within interrupt_there in
        record {
          opened = omega (arith, taken.opened);
          within = passed.1;
          rest = passed.0;
          clear = till_suc (line_outcome text) k ∙ rw taken.clear line;
          lines = omega (arith, longer, ap length same_tasks, taken.lines);
          few = omega (arith, ap length same_tasks, taken.few);
          fewer = omega (arith, longer, interrupt_room, listed_count);
        }

    pub listed_more : {x : Interrupt} → x ≡ interrupt_at (drop at text) → Listed text before (k + 1) (at + (length_of Frame.Interrupt + 1)) (with_interrupt is x)
    listed_more {x = x} e =
        let figures : x ≡ interrupt_at (past k text) = e ∙ ap interrupt_at (sym taken.rest) in
        rw (add-one k)
        (record {
          behind = record { taken = taken_more; late = λ task. omega (arith, longer) };
          tasks = same_tasks ∙ listed.tasks;
          all = (λ i. with_interrupt (listed.all i) (figures i)) ∙ interrupts_more (interrupts_among text k) (interrupt_at (past k text)) (omega (arith, interrupt_room, listed_count)) ∙ ap interrupts_with (sym more);
        })

  -- ---- no more is taken

  -- behind the last line
  pub ended_done : length text ≤ at → Ended text before (record { outcome = Ok tt; interrupts = is; lines = k })
  ended_done over =
      record {
        some = taken_some taken;
        lines = omega (arith, taken.lines, taken.few, taken.fewer);
        few = taken.fewer;
        clear = taken.clear;
        tasks = listed.tasks;
        interrupts = listed.all;
        done = λ e. taken.rest ∙ drop_of_length-le text over;
        refused = λ why e. done_refused e;
      }

  -- or before one that is refused
  pub ended_refused : {o : Outcome} → o ≡ line_outcome text (k + 1) → (o ≡ Ok tt → ⊥) → Ended text before (record { outcome = o; interrupts = is; lines = k })
  ended_refused said refused =
      record {
        some = taken_some taken;
        lines = omega (arith, taken.lines, taken.few, taken.fewer);
        few = taken.fewer;
        clear = taken.clear;
        tasks = listed.tasks;
        interrupts = listed.all;
        done = λ e. absurd (refused e);
        refused = λ why e. sym said ∙ e;
      }
