-- A task file's lines, counted from 1, and the rows that reading tests at each line.
-- Document 01, "Lines of hexadecimal" (RULES 5) and rows 1 to 4 of the refusals (RULES 6.1 and 6.2); document 02, Req 04, 05, 07 and 08.
use Rattle.std.specs.Prelude.{ℕ, zero, suc, pred, ◌+◌, List, [], ◌∷◌, ◌++◌, Bool, true, false, not, cond, ◌&&◌, ◌||◌, length, eqb, None, Option, Some}
use Rattle.frameread.specs.Line.{after, formed, field_of}
use Rattle.frames.specs.Table.{length_of}
use Rattle.frames.specs.declared.table.Frame.{Frame}
use Rattle.refusals.specs.declared.Refusal.TheVariants.{Line, Order, Count, Twice}
use Rattle.refusals.specs.Refused.{Outcome}
use Rattle.refusals.specs.First.{first_of, when}
use Rattle.tasks.specs.declared.set.Header.{Header}
use Rattle.tasks.specs.declared.set.Task.{Task}
use Rattle.tasks.specs.declared.set.Interrupt.{Interrupt}
use Rattle.tasks.specs.Set.{most_tasks, most_interrupts, has_id, with_lines}
use Rattle.tasks.specs.Search.{some}

-- the text past n lines
unfoldable pub past : ℕ → List ℕ → List ℕ
past zero text = text
past (suc n) text = after (past n text)

-- the text from line k on
abbrev pub from : List ℕ → ℕ → List ℕ
from text k = past (pred k) text

abbrev pub empty : List ℕ → Bool
empty [] = true
empty (b ∷ bs) = false

-- whether a text starts with a task's line, an 02 or an 03 line
unfoldable pub task_formed : List ℕ → Bool
task_formed text = formed Frame.Task text || formed Frame.Cached text

-- whether line k is there, is an 01 line, is a task's line, is a 05 line, is a 06 line, is an 07 line
abbrev pub present : List ℕ → ℕ → Bool
present text k = not (empty (from text k))

abbrev pub is_header : List ℕ → ℕ → Bool
is_header text k = formed Frame.Header (from text k)

abbrev pub is_task : List ℕ → ℕ → Bool
is_task text k = task_formed (from text k)

abbrev pub is_masked : List ℕ → ℕ → Bool
is_masked text k = formed Frame.Masked (from text k)

abbrev pub is_rule : List ℕ → ℕ → Bool
is_rule text k = formed Frame.Rule (from text k)

abbrev pub is_interrupt : List ℕ → ℕ → Bool
is_interrupt text k = formed Frame.Interrupt (from text k)

-- the figures of line 1, with no 05 and no 06 line
unfoldable pub header_at : List ℕ → Header
header_at text =
    record {
      processors = field_of Frame.Header 0 text;
      slot = field_of Frame.Header 1 text;
      relj = field_of Frame.Header 2 text;
      relo = field_of Frame.Header 3 text;
      ctswo = field_of Frame.Header 4 text;
      resd = field_of Frame.Header 5 text;
      cpmdo = field_of Frame.Header 6 text;
      masked = None;
      rule = None;
    }

-- the kind of a task's line, the cache cost that an 03 line gives, and the figures of the line
unfoldable pub task_kind : List ℕ → Frame
task_kind text = cond (formed Frame.Cached text) Frame.Cached Frame.Task

unfoldable pub cache_at : List ℕ → Option ℕ
cache_at text = cond (formed Frame.Cached text) (Some (field_of Frame.Cached 4 text)) None

unfoldable pub task_at : List ℕ → Task
task_at text =
    record {
      id = field_of (task_kind text) 0 text;
      cost = field_of (task_kind text) 1 text;
      deadline = field_of (task_kind text) 2 text;
      period = field_of (task_kind text) 3 text;
      cache = cache_at text;
    }

-- the figures of an 07 line
unfoldable pub interrupt_at : List ℕ → Interrupt
interrupt_at text =
    record {
      processor = field_of Frame.Interrupt 0 text;
      cost = field_of Frame.Interrupt 1 text;
      deadline = field_of Frame.Interrupt 2 text;
      period = field_of Frame.Interrupt 3 text;
      jitter = field_of Frame.Interrupt 4 text;
    }

-- what an optional line of this kind gives where a text starts with one, and the bytes that it then takes
abbrev pub given_by : Frame → List ℕ → Option ℕ
given_by kind rest = cond (formed kind rest) (Some (field_of kind 0 rest)) None

abbrev pub bytes_by : Frame → List ℕ → ℕ
bytes_by kind rest = cond (formed kind rest) (length_of kind + 1) 0

-- what line 2 gives, if it is a 05 line
unfoldable pub masked_at : List ℕ → Option ℕ
masked_at text = given_by Frame.Masked (from text 2)

-- the line at which a 06 line may stand: directly behind the 05 line or, without one, behind the 01 line; and what it gives
unfoldable pub rule_line : List ℕ → ℕ
rule_line text = cond (is_masked text 2) 3 2

unfoldable pub rule_at : List ℕ → Option ℕ
rule_at text = given_by Frame.Rule (from text (rule_line text))

-- the board's figures, with what these two lines give
unfoldable pub file_header : List ℕ → Header
file_header text = with_lines (header_at text) (masked_at text) (rule_at text)

-- the lines before the tasks, and their bytes: the 01 line, and the 05 line and the 06 line where there is one
unfoldable pub opening_lines : List ℕ → ℕ
opening_lines text = cond (is_rule text (rule_line text)) (rule_line text) (pred (rule_line text))

unfoldable pub opening_bytes : List ℕ → ℕ
opening_bytes text = length_of Frame.Header + 1 + bytes_by Frame.Masked (from text 2) + bytes_by Frame.Rule (from text (rule_line text))

-- what the lines that pass a test among the first n lines hold, in order
unfoldable pub among : {A : Type 0} → (List ℕ → Bool) → (List ℕ → A) → List ℕ → ℕ → List A
among test figures text zero = []
among test figures text (suc n) = among test figures text n ++ cond (test (past n text)) (figures (past n text) ∷ []) []

-- the tasks of the 02 and 03 lines, the interrupts of the 07 lines
abbrev pub tasks_among : List ℕ → ℕ → List Task
tasks_among text n = among task_formed task_at text n

abbrev pub interrupts_among : List ℕ → ℕ → List Interrupt
interrupts_among text n = among (formed Frame.Interrupt) interrupt_at text n

-- those of the whole file, which has no more lines than bytes
abbrev pub file_tasks : List ℕ → List Task
file_tasks text = tasks_among text (length text)

abbrev pub file_interrupts : List ℕ → List Interrupt
file_interrupts text = interrupts_among text (length text)

-- the kinds that a task file admits, and whether a text starts with a line of one of them
abbrev pub file_kinds : List Frame
file_kinds = Frame.Header ∷ Frame.Task ∷ Frame.Cached ∷ Frame.Masked ∷ Frame.Rule ∷ Frame.Interrupt ∷ []

abbrev pub admitted : List ℕ → Bool
admitted rest = some (λ (kind : Frame). formed kind rest) file_kinds

-- 1 LINE: a line is not kind 01, 02, 03, 05, 06 or 07 at its exact length in legal digits, or lacks its LF
unfoldable pub line_row : List ℕ → ℕ → Bool
line_row text k = present text k && not (admitted (from text k))

abbrev pub first_line : Bool → Bool → Bool → Bool
first_line true at_one at-later = at_one
first_line false at_one at-later = at-later

-- line k is a task behind an interrupt
abbrev pub late_task : List ℕ → ℕ → Bool
late_task text k = is_task text k && not (eqb (length (interrupts_among text (pred k))) 0)

-- line k is a 05 line elsewhere than line 2, or a 06 line elsewhere than behind the 01 or the 05 line
abbrev pub misplaced : List ℕ → ℕ → Bool
misplaced text k = (is_masked text k && not (eqb k 2)) || (is_rule text k && not (eqb k (rule_line text)))

-- 2 ORDER: line 1 is missing or not 01, or a later line is 01, or a 05 or 06 line is where it may not stand, or one behind an 07 line is 02 or 03
unfoldable pub order_row : List ℕ → ℕ → Bool
order_row text k = first_line (eqb k 1) (not (is_header text k)) (is_header text k || (misplaced text k || late_task text k))

-- line k is the one after the last
abbrev pub after_last : List ℕ → ℕ → Bool
after_last text k = present text (pred k) && not (present text k)

-- 3 COUNT: no 02 or 03 line (place: the line after the last), or a 65th, or a 33rd 07 line
unfoldable pub count_line_row : List ℕ → ℕ → Bool
count_line_row text k =
    (after_last text k && eqb (length (file_tasks text)) 0) ||
    ((is_task text k && eqb (length (tasks_among text (pred k))) most_tasks) ||
    (is_interrupt text k && eqb (length (interrupts_among text (pred k))) most_interrupts))

-- 4 TWICE: an id repeats
unfoldable pub twice_line_row : List ℕ → ℕ → Bool
twice_line_row text k = is_task text k && some (has_id (task_at (from text k)).id) (tasks_among text (pred k))

-- at one line the lowest number wins
unfoldable pub line_outcome : List ℕ → ℕ → Outcome
line_outcome text k =
    first_of (when (line_row text k) (Line k))
    (first_of (when (order_row text k) (Order k))
    (first_of (when (count_line_row text k) (Count k)) (when (twice_line_row text k) (Twice k))))
