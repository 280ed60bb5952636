-- Laws of a file's shape: the lines before the tasks, so many tasks and so many interrupts, where they end, and what they hold.
-- Assumes nothing.
use Rattle.std.specs.Prelude.{None, Some}
use Prim.Native.Nat.{ℕ, suc, pred, ◌+◌, ◌*◌, ◌≤◌}
use native.Mathlib.Omega.{arith}
use mathlib.Core.List.{List, []}
use mathlib.Core.Bool.{Bool, true, false, cond}
use mathlib.Core.Path.{◌≡◌, refl, ap, sym, ◌∙◌, subst}
use lib.ListN.{length, drop}
use Rattle.frameread.specs.Line.{after, formed, field_of}
use Rattle.frames.specs.Table.{length_of}
use Rattle.frames.specs.declared.table.Frame.{Frame}
use Rattle.taskfile.specs.File.{past, given_by, bytes_by, masked_at, rule_line, rule_at, file_header, opening_lines, opening_bytes, tasks_among, interrupts_among, task_formed, task_kind, task_at, interrupt_at}
use Rattle.taskfile.proofs.AmongLaws.{among_all, all_interrupts}
use Rattle.taskfile.proofs.TaskLaws.{task_formed_lem, kind_most}
use Rattle.taskfile.proofs.Lines.{task_no_interrupt, interrupt_no_task, some_opening, rule_within, opening_near}
use Rattle.taskfile.proofs.OpeningLaws.{taken_opening, among_opening, none_opening}
use Rattle.tasks_claims.specs.Claims.{Opened, lines_to, size_of, Shaped, tasks_in, interrupt_count}
use Rattle.tasks_claims.proofs.RunLaws.{lines_is, bytes_most, past_run, run_count, run_other}

-- the text past one line more
pub past_next : (text : List ℕ) (i : ℕ) → past (suc i) text ≡ after (past i text)
unfolding past
past_next text i = refl

-- ---- the lines before the tasks

-- an 01, a 05 and a 06 line at most, and their bytes
pub opening_few : (text : List ℕ) → opening_lines text ≤ 3
opening_few text = omega (arith, rule_within text, opening_near text)

pub optional_most : (kind : Frame) (rest : List ℕ) → bytes_by kind rest ≤ length_of kind + 1
optional_most kind rest = by_kind (formed kind rest)
  where
    by_kind : (b : Bool) → cond b (length_of kind + 1) 0 ≤ length_of kind + 1
    by_kind true = omega arith
    by_kind false = omega arith

pub opening_most : (text : List ℕ) → opening_bytes text ≤ length_of Frame.Header + 1 + (length_of Frame.Masked + 1) + (length_of Frame.Rule + 1)
unfolding opening_bytes
opening_most text = omega (arith, optional_most Frame.Masked (past 1 text), optional_most Frame.Rule (past (pred (rule_line text)) text))

-- what a line that may be there gives, by whether it is there
pub given_there : (kind : Frame) (rest : List ℕ) → formed kind rest ≡ true → given_by kind rest ≡ Some (field_of kind 0 rest)
given_there kind rest e = rw e

pub given_absent : (kind : Frame) (rest : List ℕ) → formed kind rest ≡ false → given_by kind rest ≡ None
given_absent kind rest e = rw e

-- and the board's figures have it
pub file_masked : (text : List ℕ) → (file_header text).masked ≡ given_by Frame.Masked (past 1 text)
unfolding file_header masked_at
file_masked text = refl

pub file_rule : (text : List ℕ) → (file_header text).rule ≡ given_by Frame.Rule (past (pred (rule_line text)) text)
unfolding file_header rule_at
file_rule text = refl

-- ---- the tasks and the interrupts behind them

-- their lines in figures, and the most that their bytes are
module _ (text : List ℕ) (n k : ℕ) where
  pub lines_in : lines_to text n k ≡ opening_lines text + n + k
  lines_in = omega (arith, lines_is (opening_lines text) n, lines_is (lines_to text n 0) k)

  pub lines_opened : opening_lines text ≤ lines_to text n k
  lines_opened = omega (arith, lines_in)

  pub lines_some : 1 ≤ lines_to text n k
  lines_some = omega (arith, some_opening text, lines_opened)

  pub size_most : size_of text n k ≤ opening_bytes text + (length_of Frame.Cached + 1) * n + (length_of Frame.Interrupt + 1) * k
  size_most =
      let tasks = bytes_most task_kind text (opening_lines text) (length_of Frame.Cached) kind_most (opening_bytes text) n in
      let interrupts = bytes_most (λ rest. Frame.Interrupt) text (lines_to text n 0) (length_of Frame.Interrupt) (λ rest. omega arith) (size_of text n 0) k in
      omega (arith, tasks, interrupts)

  -- a task more, before any interrupt
  pub size_task : k ≡ 0 → size_of text (suc n) k ≡ size_of text n k + (length_of (task_kind (past (lines_to text n k) text)) + 1)
  size_task none = subst (λ (k : ℕ). size_of text (suc n) k ≡ size_of text n k + (length_of (task_kind (past (lines_to text n k) text)) + 1)) (sym none) refl

-- none taken yet
pub shaped_none : (text : List ℕ) → Opened text → Shaped text 0 0
shaped_none text o = record { opened = o; tasks = λ j lt. absurd (omega arith); interrupts = λ j lt. absurd (omega arith) }

module _ (text : List ℕ) (n k : ℕ) (s : Shaped text n k) where
  -- past these lines stands what follows their bytes, and the text has those bytes
  pub past_shaped : (past (lines_to text n k) text ≡ drop (size_of text n k) text) × (size_of text n k ≤ length text)
  past_shaped =
      let taken = taken_opening text s.opened in
      let tasks = past_run task_formed text (opening_lines text) task_kind task_formed_lem (opening_bytes text) n taken.rest taken.within s.tasks in
      past_run (formed Frame.Interrupt) text (lines_to text n 0) (λ rest. Frame.Interrupt) (λ rest f. f) (size_of text n 0) k tasks.0 tasks.1 s.interrupts

  -- no interrupt stands before the tasks' end, and no task behind it
  pub tasks_first : interrupts_among text (lines_to text n 0) ≡ []
  tasks_first = run_other task_formed text (opening_lines text) (formed Frame.Interrupt) interrupt_at task_no_interrupt n s.tasks ∙ none_opening text s.opened

  pub tasks_last : tasks_among text (lines_to text n k) ≡ tasks_among text (lines_to text n 0)
  tasks_last = run_other (formed Frame.Interrupt) text (lines_to text n 0) task_formed task_at interrupt_no_task k s.interrupts

  -- each of the lines behind the opening holds a task or an interrupt
  pub shaped_tasks : length (tasks_among text (lines_to text n k)) ≡ n
  shaped_tasks = ap length tasks_last ∙ run_count task_formed text (opening_lines text) task_at (among_opening text s.opened) n s.tasks

  pub shaped_interrupts : length (interrupts_among text (lines_to text n k)) ≡ k
  shaped_interrupts = run_count (formed Frame.Interrupt) text (lines_to text n 0) interrupt_at tasks_first k s.interrupts

  -- and so a file that ends there holds as many as its shape says
  pub shaped_all : past (lines_to text n k) text ≡ [] → (tasks_in text ≡ n) × (interrupt_count text ≡ k)
  shaped_all e = (
    ap length (sym (among_all text (lines_to text n k) e)) ∙ shaped_tasks,
    ap length (sym (all_interrupts text (lines_to text n k) e)) ∙ shaped_interrupts,
  )
