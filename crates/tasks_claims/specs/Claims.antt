-- What is claimed of task files: each refusal of reading exactly when its row says, what an accepted file is,
-- what a write answers and leaves, and that reading and writing undo each other.
-- Document 01, "Refusal numbers and their order" (RULES 6) and "How tight each promise is"; document 02, Req 04, 05, 07 and 08.
use Rattle.std.specs.Prelude.{ℕ, zero, suc, pred, ◌+◌, ◌<◌, ◌≤◌, List, [], Bool, true, false, ◌≡◌, ◌↔◌, ◌⊎◌, length, take, drop, get_or, Err, None, Ok, Option, Some}
use Rattle.frameread.specs.Line.{formed, field_of}
use Rattle.frames.specs.Table.{length_of}
use Rattle.refusals.specs.Refused.{number_of}
use Rattle.frames.specs.declared.table.Frame.{Frame}
use Rattle.refusals.specs.declared.Refusal.{Refusal}
use Rattle.refusals.specs.declared.Refusal.TheVariants.{Line, Order, Count, Twice, Board, Range, Ask, Room}
use Rattle.taskread.specs.declared.read.ReadAnswer.{ReadAnswer}
use Rattle.tasks.specs.Set.{most_tasks, most_interrupts, zero_task, zero_interrupt, zero_set, members, interrupts_in, set_of}
use Rattle.taskrows.specs.Rows.{board_row, range_row, interrupt_row}
use Rattle.taskfile.specs.File.{past, from, present, is_header, is_task, is_masked, is_rule, is_interrupt, task_formed, task_kind, task_at, given_by, rule_line, interrupt_at, interrupts_among, line_row, order_row, count_line_row, twice_line_row, line_outcome, file_header, opening_lines, opening_bytes, file_tasks, file_interrupts}
use Rattle.readbytes.specs.Furthest.{furthest}
use Rattle.taskread.specs.Read.{read_of, answer}
use Rattle.refusals.specs.Refused.{Written}
use Rattle.tasks.specs.declared.set.Interrupt.{Interrupt}
use Rattle.tasks.specs.declared.set.Task.{Task}
use Rattle.tasks.specs.declared.set.TaskSet.{TaskSet}
use Rattle.tasktext.specs.Text.{text_of}
use Rattle.taskwrite.specs.Write.{writer_asks, write_of, Wrote}

-- the tasks of a file, and the k-th of them, from 1
abbrev pub tasks_in : List ℕ → ℕ
tasks_in text = length (file_tasks text)

abbrev pub task_of : List ℕ → ℕ → Task
task_of text k = get_or (file_tasks text) (pred k) zero_task

-- its interrupts, and the k-th of them
abbrev pub interrupt_count : List ℕ → ℕ
interrupt_count text = length (file_interrupts text)

abbrev pub interrupt_of : List ℕ → ℕ → Interrupt
interrupt_of text k = get_or (file_interrupts text) (pred k) zero_interrupt

-- rows 1 to 4, which are tested at a line
pub data LineRow : Type 0 where
  LINE ORDER COUNT TWICE : LineRow

abbrev pub refusal_at : LineRow → ℕ → Refusal
refusal_at LINE k = Line k
refusal_at ORDER k = Order k
refusal_at COUNT k = Count k
refusal_at TWICE k = Twice k

abbrev pub holds_at : LineRow → List ℕ → ℕ → Bool
holds_at LINE text k = line_row text k
holds_at ORDER text k = order_row text k
holds_at COUNT text k = count_line_row text k
holds_at TWICE text k = twice_line_row text k

-- no row holds at any line before line k, or at any line
abbrev pub Clear : List ℕ → ℕ → Type 0
Clear text k = (j : ℕ) → 1 ≤ j → j < k → line_outcome text j ≡ Ok tt

abbrev pub AllClear : List ℕ → Type 0
AllClear text = (j : ℕ) → 1 ≤ j → line_outcome text j ≡ Ok tt

-- rows 1 to 4 with place k: no row holds before line k, and of those that hold there this is the lowest
pub record FirstAt (row : LineRow) (text : List ℕ) (k : ℕ) : Type 0 where
  pub counted : 1 ≤ k
  pub clear : Clear text k
  pub lower : (other : LineRow) → number_of (refusal_at other k) < number_of (refusal_at row k) → holds_at other text k ≡ false
  pub holds : holds_at row text k ≡ true

abbrev pub ReadExactlyLine : Type 0
ReadExactlyLine = (row : LineRow) (text : List ℕ) (k : ℕ) → ((read_of text).outcome ≡ Err (refusal_at row k)) ↔ FirstAt row text k

-- row 5: every line is clear, and the board's figures break it
abbrev pub ReadExactlyBoard : Type 0
ReadExactlyBoard =
    (text : List ℕ) → ((read_of text).outcome ≡ Err Board) ↔ (AllClear text × (board_row (file_header text) ≡ true))

-- row 6 with place k: every line is clear, the board's figures are right, and task k is the first out of range
pub record FirstRange (text : List ℕ) (k : ℕ) : Type 0 where
  pub clear : AllClear text
  pub board : board_row (file_header text) ≡ false
  pub counted : 1 ≤ k
  pub within : k ≤ tasks_in text
  pub holds : range_row (task_of text k) ≡ true
  pub earlier : (j : ℕ) → 1 ≤ j → j < k → range_row (task_of text j) ≡ false

abbrev pub ReadExactlyRange : Type 0
ReadExactlyRange = (text : List ℕ) (k : ℕ) → k ≤ most_tasks → ((read_of text).outcome ≡ Err (Range k)) ↔ FirstRange text k

-- row 6 with place 64 and k: no task is out of range, and interrupt k is the first that is
pub record FirstInterrupt (text : List ℕ) (k : ℕ) : Type 0 where
  pub clear : AllClear text
  pub board : board_row (file_header text) ≡ false
  pub tasks : (j : ℕ) → 1 ≤ j → j ≤ tasks_in text → range_row (task_of text j) ≡ false
  pub within : k ≤ interrupt_count text
  pub holds : interrupt_row (file_header text).processors (interrupt_of text k) ≡ true
  pub earlier : (j : ℕ) → 1 ≤ j → j < k → interrupt_row (file_header text).processors (interrupt_of text j) ≡ false

abbrev pub ReadExactlyInterrupt : Type 0
ReadExactlyInterrupt =
    (text : List ℕ) (k : ℕ) → 1 ≤ k → ((read_of text).outcome ≡ Err (Range (most_tasks + k))) ↔ FirstInterrupt text k

-- accepted: none of rows 1 to 6 holds
pub record NoRow (text : List ℕ) : Type 0 where
  pub clear : AllClear text
  pub board : board_row (file_header text) ≡ false
  pub range : (j : ℕ) → 1 ≤ j → j ≤ tasks_in text → range_row (task_of text j) ≡ false
  pub interrupts : (j : ℕ) → 1 ≤ j → j ≤ interrupt_count text → interrupt_row (file_header text).processors (interrupt_of text j) ≡ false

abbrev pub ReadExactlyDone : Type 0
ReadExactlyDone = (text : List ℕ) → ((read_of text).outcome ≡ Ok tt) ↔ NoRow text

-- the reader gives 1 to 6, and with a refusal the all-zero set
abbrev pub ReadRefuses : Type 0
ReadRefuses = (text : List ℕ) (r : Refusal) → (read_of text).outcome ≡ Err r → (number_of r ≤ 6) × ((read_of text).set ≡ zero_set)

-- two answers that keep the reader's promise coincide
abbrev pub ReadDetermined : Type 0
ReadDetermined = (text : List ℕ) (a b : ReadAnswer) → a ≡ read_of text → b ≡ read_of text → a ≡ b

-- the lines before the tasks are there: line 1 is an 01 line, and behind it may stand a 05 line and a 06 line
abbrev pub Opened : List ℕ → Type 0
Opened text = formed Frame.Header text ≡ true

-- so many lines, and behind them n more
abbrev pub lines_with : (lines n : ℕ) → ℕ
lines_with lines zero = lines
lines_with lines (suc n) = suc (lines_with lines n)

-- so many bytes, and behind them those of these n lines, each as long as its kind
abbrev pub bytes_with : (List ℕ → Frame) → List ℕ → (lines bytes n : ℕ) → ℕ
bytes_with kind text lines bytes zero = bytes
bytes_with kind text lines bytes (suc n) = bytes_with kind text lines bytes n + (length_of (kind (past (lines_with lines n) text)) + 1)

-- the lines of a file that has n tasks and k interrupts, and their bytes
abbrev pub lines_to : List ℕ → (n k : ℕ) → ℕ
lines_to text n k = lines_with (lines_with (opening_lines text) n) k

abbrev pub size_of : List ℕ → (n k : ℕ) → ℕ
size_of text n k = bytes_with (λ rest. Frame.Interrupt) text (lines_to text n 0) (bytes_with task_kind text (opening_lines text) (opening_bytes text) n) k

-- the n lines behind so many pass a test
abbrev pub Run : (List ℕ → Bool) → List ℕ → (lines n : ℕ) → Type 0
Run test text lines n = (j : ℕ) → j < n → test (past (lines_with lines j) text) ≡ true

-- the file is opened, the n lines behind that are 02 or 03 lines, and the k lines behind these are 07 lines
pub record Shaped (text : List ℕ) (n k : ℕ) : Type 0 where
  pub opened : Opened text
  pub tasks : Run task_formed text (opening_lines text) n
  pub interrupts : Run (formed Frame.Interrupt) text (lines_to text n 0) k

-- reading looks no further than that
abbrev pub ReadLooksAt : Type 0
ReadLooksAt = (n : ℕ) (text : List ℕ) → furthest ≤ n → read_of (take n text) ≡ read_of text

-- an accepted file is a header, a 05 line or none, a 06 line or none, 1 to 64 tasks and up to 32 interrupts, nothing after them, and the answer holds those
pub record AcceptedFile (text : List ℕ) : Type 0 where
  pub any : 1 ≤ tasks_in text
  pub most : tasks_in text ≤ most_tasks
  pub few : interrupt_count text ≤ most_interrupts
  pub shaped : Shaped text (tasks_in text) (interrupt_count text)
  pub bytes : length text ≡ size_of text (tasks_in text) (interrupt_count text)
  pub ended : past (lines_to text (tasks_in text) (interrupt_count text)) text ≡ []
  pub header : (read_of text).set.header ≡ file_header text
  pub count : (read_of text).set.count ≡ tasks_in text
  pub tasks : members (read_of text).set ≡ file_tasks text
  pub counted : (read_of text).set.interrupts.count ≡ interrupt_count text
  pub interrupts : interrupts_in (read_of text).set ≡ file_interrupts text

abbrev pub ReadAccepted : Type 0
ReadAccepted = (text : List ℕ) → (read_of text).outcome ≡ Ok tt → AcceptedFile text

-- a line that may be there is remembered: there is a figure exactly where the text starts with such a line of that figure, and none
-- exactly where it starts with no such line
pub record Remembered (kind : Frame) (rest : List ℕ) (figure : Option ℕ) : Type 0 where
  pub told : figure ≡ given_by kind rest
  pub given : (x : ℕ) → (figure ≡ Some x) ↔ ((formed kind rest ≡ true) × (field_of kind 0 rest ≡ x))
  pub absent : (figure ≡ None) ↔ (formed kind rest ≡ false)

-- the set of an accepted file remembers its 05 line, which is line 2
abbrev pub MaskedRemembered : Type 0
MaskedRemembered = (text : List ℕ) → (read_of text).outcome ≡ Ok tt → Remembered Frame.Masked (from text 2) (read_of text).set.header.masked

-- and its 06 line, which stands directly behind the 05 line or, without one, behind the 01 line
abbrev pub RuleRemembered : Type 0
RuleRemembered =
    (text : List ℕ) → (read_of text).outcome ≡ Ok tt → Remembered Frame.Rule (from text (rule_line text)) (read_of text).set.header.rule

-- no line of an accepted file but line 2 is a 05 line
abbrev pub MaskedOnlyAtTwo : Type 0
MaskedOnlyAtTwo = (text : List ℕ) (k : ℕ) → (read_of text).outcome ≡ Ok tt → 1 ≤ k → is_masked text k ≡ true → k ≡ 2

-- and none is a 06 line but the one directly behind the 05 line or, without one, behind the 01 line
abbrev pub RuleOnlyThere : Type 0
RuleOnlyThere =
    (text : List ℕ) (k : ℕ) → (read_of text).outcome ≡ Ok tt → 1 ≤ k → is_rule text k ≡ true → ((k ≡ 2) × (is_masked text 2 ≡ false)) ⊎ ((k ≡ 3) × (is_masked text 2 ≡ true))

-- the set of an accepted file remembers its 07 lines in their order: interrupt k has the figures of the k-th line behind the tasks
pub record Listed (text : List ℕ) : Type 0 where
  pub told : interrupts_in (read_of text).set ≡ file_interrupts text
  pub line : (k : ℕ) → k < interrupt_count text → is_interrupt text (suc (lines_to text (tasks_in text) k)) ≡ true
  pub figures : (k : ℕ) → k < interrupt_count text → get_or (interrupts_in (read_of text).set) k zero_interrupt ≡ interrupt_at (from text (suc (lines_to text (tasks_in text) k)))

abbrev pub InterruptsRemembered : Type 0
InterruptsRemembered = (text : List ℕ) → (read_of text).outcome ≡ Ok tt → Listed text

-- a task that the set keeps of a line: it has the line's figures, a cache cost of its own exactly where that is an 03 line with that
-- figure, and none exactly where it is an 02 line
pub record TaskKept (rest : List ℕ) (t : Task) : Type 0 where
  pub line : task_formed rest ≡ true
  pub figures : t ≡ task_at rest
  pub given : (cost : ℕ) → (t.cache ≡ Some cost) ↔ ((formed Frame.Cached rest ≡ true) × (field_of Frame.Cached 4 rest ≡ cost))
  pub absent : (t.cache ≡ None) ↔ (formed Frame.Task rest ≡ true)

-- the set of an accepted file remembers its tasks' lines in their order, however 02 and 03 lines alternate
abbrev pub TasksRemembered : Type 0
TasksRemembered =
    (text : List ℕ) (k : ℕ) → (read_of text).outcome ≡ Ok tt → k < tasks_in text → TaskKept (from text (suc (lines_to text k 0))) (get_or (members (read_of text).set) k zero_task)

-- a task line behind an 07 line is ORDER there, and a 33rd 07 line COUNT, where no row holds at any line before
abbrev pub TaskTooLate : Type 0
TaskTooLate =
    (text : List ℕ) (j k : ℕ) → 1 ≤ j → j < k → Clear text k → is_interrupt text j ≡ true → is_task text k ≡ true → (read_of text).outcome ≡ Err (Order k)

abbrev pub InterruptTooMany : Type 0
InterruptTooMany =
    (text : List ℕ) (k : ℕ) → 1 < k → Clear text k → is_interrupt text k ≡ true → length (interrupts_among text (pred k)) ≡ most_interrupts → (read_of text).outcome ≡ Err (Count k)

-- a file without a task is COUNT at the line after the last: line 2 behind an 01 line, line 3 behind an 01 and a 05 line, the next one
-- behind a 06 line, and so behind any lines that are clear, 07 lines too
pub record NoTask (text : List ℕ) : Type 0 where
  pub header : is_header text 1 ≡ true → past 1 text ≡ [] → (read_of text).outcome ≡ Err (Count 2)
  pub masked : is_header text 1 ≡ true → is_masked text 2 ≡ true → past 2 text ≡ [] → (read_of text).outcome ≡ Err (Count 3)
  pub rule : is_header text 1 ≡ true → is_rule text (rule_line text) ≡ true → past (rule_line text) text ≡ [] → (read_of text).outcome ≡ Err (Count (suc (rule_line text)))
  pub last : (k : ℕ) → Clear text (suc (suc k)) → present text (suc k) ≡ true → past (suc k) text ≡ [] → tasks_in text ≡ 0 → (read_of text).outcome ≡ Err (Count (suc (suc k)))

abbrev pub NoTaskPlace : Type 0
NoTaskPlace = (text : List ℕ) → NoTask text

-- ASK exactly where row 11 holds of the set. ROOM exactly where it does not and the buffer is shorter than the text.
-- A number of bytes exactly where neither holds, and it is the text's length. No other refusal is given.
pub record WriteExactly (set : TaskSet) (before : List ℕ) : Type 0 where
  pub ask : (write_of set before ≡ Err Ask) ↔ (writer_asks set ≡ true)
  pub room : (write_of set before ≡ Err Room) ↔ ((writer_asks set ≡ false) × (length before < length (text_of set)))
  pub bytes : (n : ℕ) → (write_of set before ≡ Ok n) ↔ ((writer_asks set ≡ false) × ((length (text_of set) ≤ length before) × (n ≡ length (text_of set))))
  pub others : (r : Refusal) → write_of set before ≡ Err r → (r ≡ Ask) ⊎ (r ≡ Room)

abbrev pub WritesExactly : Type 0
WritesExactly = (set : TaskSet) (before : List ℕ) → WriteExactly set before

-- An accepted write leaves the text at the buffer's start and each byte behind it; a refused one leaves all. The length stays.
pub record WriteLeaves (before : List ℕ) (set : TaskSet) (written : Written) (left : List ℕ) : Type 0 where
  pub size : length left ≡ length before
  pub text : (n : ℕ) → written ≡ Ok n → take n left ≡ text_of set
  pub behind : (n : ℕ) → written ≡ Ok n → drop n left ≡ drop n before
  pub nothing : (r : Refusal) → written ≡ Err r → left ≡ before

abbrev pub WritesLeave : Type 0
WritesLeave = (set : TaskSet) (before left : List ℕ) (written : Written) → Wrote set before written left → WriteLeaves before set written left

-- Two results that keep the writer's promise coincide.
abbrev pub WriteDetermined : Type 0
WriteDetermined =
    (set : TaskSet) (before left other : List ℕ) (a b : Written) → Wrote set before a left → Wrote set before b other → (a ≡ b) × (left ≡ other)

-- A set as its type has it: 64 places of tasks and 32 of interrupts, whatever stands in those that are not used.
pub record Whole (set : TaskSet) : Type 0 where
  pub tasks : length set.tasks ≡ most_tasks
  pub interrupts : length set.interrupts.each ≡ most_interrupts

-- A set that can be written, read again, is the same set, its unused room at zero.
abbrev pub ReadWritten : Type 0
ReadWritten =
    (set : TaskSet) → Whole set → writer_asks set ≡ false → read_of (text_of set) ≡ answer (Ok tt) (set_of set.header (members set) (interrupts_in set))

-- So one whose unused room is zero comes back as it was.
abbrev pub ReadWrittenSame : Type 0
ReadWrittenSame =
    (set : TaskSet) → set ≡ set_of set.header (members set) (interrupts_in set) → writer_asks set ≡ false → read_of (text_of set) ≡ answer (Ok tt) set

-- A file that is accepted can be written again, and has the same bytes.
abbrev pub WrittenRead : Type 0
WrittenRead =
    (text : List ℕ) → (read_of text).outcome ≡ Ok tt → (writer_asks (read_of text).set ≡ false) × (text_of (read_of text).set ≡ text)
