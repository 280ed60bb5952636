-- A set that can be written, read again, is the same set: its text has the shape of a file, and each line gives its figures back.
-- Assumes nothing.
use Rattle.std.specs.Prelude.{None, Ok, Option, Some}
use Prim.Native.Nat.{ℕ, zero, suc, pred, ◌+◌, ◌-◌, ◌≤◌, ◌<◌}
use mathlib.Core.Path.{◌≡◌, refl, sym, ◌∙◌, ap, ap₂}
use mathlib.Core.Bool.{Bool, true, false, cond}
use mathlib.Core.List.{List, [], ◌∷◌, ◌++◌, append_assoc, append-nil}
use native.Mathlib.Omega.{arith}
use lib.Dec.{eqb}
use native.Mathlib.Nat.{min-le_left}
use lib.ListN.{length, take, drop, get_or, replicate, length-append, length-replicate, length-take}
use lib.Seq.{take-suc, take-length, drop-length, drop-cons, length-take-le}
use borrow.Author.Tests.{ne_eqb, eqb-true, not-false}
use Rattle.frames.specs.Table.{widths_of, fields_in, index_of}
use Rattle.frameread.specs.Line.{after, closed, formed, field_of}
use Rattle.frameread.proofs.KindLaws.{not_formed}
use Rattle.framewrite.specs.Line.{line_of}
use Rattle.framelines.specs.Each.{each_line}
use Rattle.framelines.proofs.EachLaws.{each_nil, each_cons}
use Rattle.frames.specs.declared.table.Frame.{Frame}
use Rattle.refusals.specs.declared.Refusal.TheVariants.{Count, Twice}
use Rattle.refusals.specs.Refused.{Outcome}
use Rattle.frames_claims.proofs.LineLaws.{line_formed, line_after, field_line}
use Rattle.tasks.specs.declared.set.Header.{Header}
use Rattle.tasks.specs.declared.set.Interrupt.{Interrupt}
use Rattle.tasks.specs.declared.set.Task.{Task}
use Rattle.tasks.specs.declared.set.TaskSet.{TaskSet}
use Rattle.tasks.specs.Set.{most_tasks, most_interrupts, zero_task, zero_interrupt, members, interrupts_in, interrupts_with, set_of, has_id, given_or}
use Rattle.taskframe.specs.Frames.{frame_by, task_frame}
use Rattle.refusals.specs.First.{first_of, when, till}
use Rattle.tasks.specs.Search.{some, at_task, first_task}
use Rattle.taskrows.specs.Rows.{range_row, interrupt_row, range_at, figures_outcome}
use Rattle.taskask.specs.Ask.{header_overflows, task_overflows, optional_overflows, interrupt_overflows, ask_row}
use Rattle.taskfile.specs.File.{past, line_outcome, header_at, given_by, masked_at, rule_line, rule_at, file_header, opening_lines, task_formed, task_kind, cache_at, task_at, interrupt_at, among, tasks_among, interrupts_among, file_tasks, file_interrupts}
use Rattle.taskread.specs.Read.{file_set, answer}
use Rattle.tasks.specs.Values.{header_values, task_values, interrupt_values}
use Rattle.optionallines.specs.Lines.{optional_line, interrupt_line, interrupt_lines}
use Rattle.tasktext.specs.Text.{task_line, task_lines, text_of}
use Rattle.taskwrite.specs.Write.{writer_asks}
use Rattle.tasks_claims.specs.Claims.{lines_with, lines_to, Run, Shaped, Whole, ReadWritten, ReadWrittenSame}
use Rattle.taskask.proofs.Carried.{count_within, interrupts_within, ask_count, ask_twice, ask_header, ask_tasks, ask_masked, ask_rule, ask_interrupts, header_fits, task_fits, optional_fits, interrupt_fits}
use Rattle.tasks.proofs.SetLaws.{members_length, members_set, interrupts_set}
use Rattle.tasks.proofs.Firsts.{at_none}
use Rattle.taskrows.proofs.FiguresLaws.{figures_interrupts}
use Rattle.tasks.proofs.Some.{some_at}
use Rattle.taskask.proofs.TwiceLaws.{twice_before}
use Rattle.taskfile.proofs.AmongLaws.{among_here, among_all, all_interrupts}
use Rattle.taskfile.proofs.TaskLaws.{task_plain, task_cached, task_apart, kind_plain, kind_cached, cache_given, cache_absent}
use Rattle.taskfile.proofs.Lines.{task_no_interrupt, masked_lines, rule_lines, clear_past, later_task, later_interrupt}
use Rattle.taskfile.proofs.OpeningLaws.{taken_opening, among_opening, none_opening}
use Rattle.taskread.proofs.Reading.{reads_clear}
use Rattle.refusals.proofs.FirstLaws.{till_suc}
use Rattle.tasks_claims.proofs.RunLaws.{run_less, run_other}
use Rattle.tasks_claims.proofs.ShapedLaws.{past_next, given_there, given_absent, lines_some, tasks_first, tasks_last, shaped_all}
use Rattle.taskwrite.proofs.WriteAsks.{first_some, writer_ask, writer_board, writer_range, writer_interrupts}
use Rattle.optionallines.proofs.OptionalLaws.{optional_none, optional_given}

-- the board's figures come back from the header's line and from what the 05 and the 06 line give
header_back : (h : Header) (rest : List ℕ) → header_overflows h ≡ false → masked_at (line_of Frame.Header (header_values h) ++ rest) ≡ h.masked → rule_at (line_of Frame.Header (header_values h) ++ rest) ≡ h.rule → file_header (line_of Frame.Header (header_values h) ++ rest) ≡ h
unfolding file_header header_at widths_of
header_back h rest o masked rule =
    λ i. record {
      processors = back 0 (omega arith) i;
      slot = back 1 (omega arith) i;
      relj = back 2 (omega arith) i;
      relo = back 3 (omega arith) i;
      ctswo = back 4 (omega arith) i;
      resd = back 5 (omega arith) i;
      cpmdo = back 6 (omega arith) i;
      masked = masked i;
      rule = rule i;
    }
  where
    back : (k : ℕ) → k < fields_in Frame.Header → field_of Frame.Header k (line_of Frame.Header (header_values h) ++ rest) ≡ get_or (header_values h) k 0
    back k lt = field_line Frame.Header (header_values h) rest k (header_fits h o k lt)

-- and an interrupt's
interrupt_back : (i : Interrupt) (rest : List ℕ) → interrupt_overflows i ≡ false → interrupt_at (line_of Frame.Interrupt (interrupt_values i) ++ rest) ≡ i
unfolding interrupt_at widths_of
interrupt_back x rest o =
    λ i. record {
      processor = back 0 (omega arith) i;
      cost = back 1 (omega arith) i;
      deadline = back 2 (omega arith) i;
      period = back 3 (omega arith) i;
      jitter = back 4 (omega arith) i;
    }
  where
    back : (k : ℕ) → k < fields_in Frame.Interrupt → field_of Frame.Interrupt k (line_of Frame.Interrupt (interrupt_values x) ++ rest) ≡ get_or (interrupt_values x) k 0
    back k lt = field_line Frame.Interrupt (interrupt_values x) rest k (interrupt_fits x o k lt)

-- ---- the line of a task, which has a cache cost of its own or none

-- it is a task's, of the kind that the task remembers, and has the fields of 02 at least
frame_task : (cache : Option ℕ) (text : List ℕ) → formed (frame_by cache) text ≡ true → (task_formed text ≡ true) × (task_kind text ≡ frame_by cache)
frame_task None text f = (task_plain text f, kind_plain text f)
frame_task (Some cost) text f = (task_cached text f, kind_cached text f)

frame_fields : (cache : Option ℕ) → 4 ≤ fields_in (frame_by cache)
unfolding widths_of
frame_fields None = omega arith
frame_fields (Some cost) = omega arith

-- the cost comes back from the last field of an 03 line
frame_cache : (cache : Option ℕ) (text : List ℕ) → formed (frame_by cache) text ≡ true → (4 < fields_in (frame_by cache) → field_of (frame_by cache) 4 text ≡ given_or cache 0) → cache_at text ≡ cache
unfolding widths_of
frame_cache None text f back = cache_absent text (not_formed Frame.Task Frame.Cached refl text f)
frame_cache (Some cost) text f back = cache_given text f ∙ ap Some (back (omega arith))

module _ (t : Task) (rest : List ℕ) where
  abbrev line : List ℕ
  line = task_line t ++ rest

  of_frame : formed (task_frame t) line ≡ true
  of_frame = line_formed (task_frame t) (task_values t) rest

  -- its figures come back
  task_back : task_overflows t ≡ false → task_at line ≡ t
  unfolding task_at
  task_back o =
      λ i. record {
        id = figure 0 (omega arith) i;
        cost = figure 1 (omega arith) i;
        deadline = figure 2 (omega arith) i;
        period = figure 3 (omega arith) i;
        cache = frame_cache t.cache line of_frame (back 4) i;
      }
    where
      back : (k : ℕ) → k < fields_in (task_frame t) → field_of (task_frame t) k line ≡ get_or (task_values t) k 0
      back k lt = field_line (task_frame t) (task_values t) rest k (task_fits t o k lt)

      figure : (k : ℕ) → k < 4 → field_of (task_kind line) k line ≡ get_or (task_values t) k 0
      figure k lt =
          ap (λ (f : Frame). field_of f k line) (frame_task t.cache line of_frame).1
          ∙ back k (omega (arith, frame_fields t.cache))

-- ---- a text that has, behind so many lines, a line for each of a list

-- the line of each passes a test, and ends where what follows starts
record Lined {A : Type 0} (test : List ℕ → Bool) (line : A → List ℕ) : Type 0 where
  passes : (x : A) (rest : List ℕ) → test (line x ++ rest) ≡ true
  ends : (x : A) (rest : List ℕ) → after (line x ++ rest) ≡ rest

task_lined : Lined task_formed task_line
task_lined =
    record {
      passes = λ t rest. (frame_task t.cache (task_line t ++ rest) (of_frame t rest)).0;
      ends = λ t rest. line_after (task_frame t) (task_values t) rest;
    }

interrupt_lined : Lined (formed Frame.Interrupt) interrupt_line
interrupt_lined =
    record {
      passes = λ i rest. line_formed Frame.Interrupt (interrupt_values i) rest;
      ends = λ i rest. line_after Frame.Interrupt (interrupt_values i) rest;
    }

module _ {A : Type 0} {test : List ℕ → Bool} {line : A → List ℕ} (lined : Lined test line) (z : A) (text : List ℕ) (lines : ℕ) (xs : List A) (rest : List ℕ) (starts : past lines text ≡ each_line line xs ++ rest) where
  -- the lines from place i on start with that of place i
  each_first : (i : ℕ) → i < length xs → each_line line (drop i xs) ++ rest ≡ line (get_or xs i z) ++ (each_line line (drop (suc i) xs) ++ rest)
  each_first i h =
      ap (λ (ys : List A). each_line line ys ++ rest) (drop-cons xs i z h)
      ∙ ap (λ (l : List ℕ). l ++ rest) (each_cons line (get_or xs i z) (drop (suc i) xs))
      ∙ append_assoc (line (get_or xs i z)) (each_line line (drop (suc i) xs)) rest

  -- past i of them stand the lines of those left
  past_each : (i : ℕ) → i ≤ length xs → past (lines_with lines i) text ≡ each_line line (drop i xs) ++ rest
  past_each zero h = starts
  past_each (suc i) h =
      past_next text (lines_with lines i)
      ∙ ap after (past_each i (omega arith) ∙ each_first i (omega arith))
      ∙ lined.ends (get_or xs i z) (each_line line (drop (suc i) xs) ++ rest)

  each_at : (i : ℕ) → i < length xs → past (lines_with lines i) text ≡ line (get_or xs i z) ++ (each_line line (drop (suc i) xs) ++ rest)
  each_at i h = past_each i (omega arith) ∙ each_first i h

  -- each passes the test, and behind them stands the rest
  run_each : Run test text lines (length xs)
  run_each i h = ap test (each_at i h) ∙ lined.passes (get_or xs i z) (each_line line (drop (suc i) xs) ++ rest)

  each_ended : past (lines_with lines (length xs)) text ≡ rest
  each_ended =
      past_each (length xs) (omega arith)
      ∙ ap (λ (ys : List A). each_line line ys ++ rest) (drop-length xs)
      ∙ ap (λ (l : List ℕ). l ++ rest) (each_nil line)

  -- where no figure is too large the lines hold the list
  module _ (figures : List ℕ → A) (overflows : A → Bool) (back : (x : A) (rest : List ℕ) → overflows x ≡ false → figures (line x ++ rest) ≡ x) (fit : some overflows xs ≡ false) where
    figures_back : (i : ℕ) → i < length xs → figures (past (lines_with lines i) text) ≡ get_or xs i z
    figures_back i h =
        ap figures (each_at i h) ∙ back (get_or xs i z) (each_line line (drop (suc i) xs) ++ rest) (some_at overflows xs i z fit h)

    each_back : among test figures text lines ≡ [] → (i : ℕ) → i ≤ length xs → among test figures text (lines_with lines i) ≡ take i xs
    each_back none zero h = none
    each_back none (suc i) h =
        among_here test figures text (lines_with lines i) (run_each i (omega arith))
        ∙ ap₂ (λ (ys : List A) (y : A). ys ++ (y ∷ [])) (each_back none i (omega arith)) (figures_back i (omega arith))
        ∙ sym (take-suc xs i z (omega arith))

-- such lines start with none that passes a test that they do not, if what follows does not
each_apart : {A : Type 0} {test : List ℕ → Bool} {line : A → List ℕ} (lined : Lined test line) (other : List ℕ → Bool) → ((rest : List ℕ) → test rest ≡ true → other rest ≡ false) → (xs : List A) (rest : List ℕ) → other rest ≡ false → other (each_line line xs ++ rest) ≡ false
each_apart {line = line} lined other apart [] rest none = ap (λ (l : List ℕ). other (l ++ rest)) (each_nil line) ∙ none
each_apart {line = line} lined other apart (x ∷ xs) rest none =
    ap other (ap (λ (l : List ℕ). l ++ rest) (each_cons line x xs) ∙ append_assoc (line x) (each_line line xs) rest)
    ∙ apart (line x ++ (each_line line xs ++ rest)) (lined.passes x (each_line line xs ++ rest))

-- ---- a line that may be there

-- of a text that has such a line of a set's figure, or where the set has none the rest at once: behind it stands the rest, and what it
-- gives is what the set has
module _ (kind : Frame) (text : List ℕ) (k : ℕ) (rest : List ℕ) (apart : formed kind rest ≡ false) where
  none_at : past k text ≡ optional_line kind None ++ rest → past k text ≡ rest
  none_at e = e ∙ ap (λ (l : List ℕ). l ++ rest) (optional_none kind refl)

  none_there : past k text ≡ optional_line kind None ++ rest → formed kind (past k text) ≡ false
  none_there e = ap (formed kind) (none_at e) ∙ apart

  module _ (x : ℕ) (e : past k text ≡ optional_line kind (Some x) ++ rest) where
    line_at : past k text ≡ line_of kind (x ∷ []) ++ rest
    line_at = e ∙ ap (λ (l : List ℕ). l ++ rest) (optional_given kind refl)

    line_there : formed kind (past k text) ≡ true
    line_there = ap (formed kind) line_at ∙ line_formed kind (x ∷ []) rest

  past_optional : (figure : Option ℕ) → past k text ≡ optional_line kind figure ++ rest → past (cond (formed kind (past k text)) (suc k) k) text ≡ rest
  past_optional None e = ap (λ (b : Bool). past (cond b (suc k) k) text) (none_there e) ∙ none_at e
  past_optional (Some x) e =
      ap (λ (b : Bool). past (cond b (suc k) k) text) (line_there x e)
      ∙ past_next text k ∙ ap after (line_at x e) ∙ line_after kind (x ∷ []) rest

  optional_back : 0 < fields_in kind → (figure : Option ℕ) → past k text ≡ optional_line kind figure ++ rest → optional_overflows kind figure ≡ false → given_by kind (past k text) ≡ figure
  optional_back some None e o = given_absent kind (past k text) (none_there e)
  optional_back some (Some x) e o =
      given_there kind (past k text) (line_there x e)
      ∙ ap Some (ap (field_of kind 0) (line_at x e) ∙ field_line kind (x ∷ []) rest 0 (optional_fits kind x o 0 some))

-- it is no line of another kind, if what follows is not
optional_apart : (kind other : Frame) → eqb (index_of kind) (index_of other) ≡ false → (figure : Option ℕ) (rest : List ℕ) → formed other rest ≡ false → formed other (optional_line kind figure ++ rest) ≡ false
optional_apart kind other differ None rest none = ap (λ (l : List ℕ). formed other (l ++ rest)) (optional_none kind refl) ∙ none
optional_apart kind other differ (Some x) rest none =
    ap (λ (l : List ℕ). formed other (l ++ rest)) (optional_given kind refl)
    ∙ not_formed kind other differ (line_of kind (x ∷ []) ++ rest) (line_formed kind (x ∷ []) rest)

-- ---- the text of a set

module _ (set : TaskSet) where
  abbrev text : List ℕ
  text = text_of set

  abbrev ts : List Task
  ts = members set

  abbrev is : List Interrupt
  is = interrupts_in set

  -- its last lines, and what stands behind line 1 and behind the lines before the tasks
  abbrev lists : List ℕ
  lists = task_lines ts ++ interrupt_lines is

  lists_apart : (kind : Frame) → eqb 1 (index_of kind) ≡ false → eqb 2 (index_of kind) ≡ false → eqb 5 (index_of kind) ≡ false → formed kind lists ≡ false
  unfolding formed closed
  lists_apart kind plain cached interrupt =
      each_apart task_lined (formed kind) (λ rest f. task_apart rest f kind plain cached) ts (interrupt_lines is)
      (ap (formed kind) (sym (append-nil (interrupt_lines is))) ∙ each_apart interrupt_lined (formed kind) (not_formed Frame.Interrupt kind interrupt) is [] refl)

  abbrev behind_masked : List ℕ
  behind_masked = optional_line Frame.Rule set.header.rule ++ lists

  masked_apart : formed Frame.Masked behind_masked ≡ false
  masked_apart = optional_apart Frame.Rule Frame.Masked refl set.header.rule lists (lists_apart Frame.Masked refl refl refl)

  second_text : past 1 text ≡ optional_line Frame.Masked set.header.masked ++ behind_masked
  unfolding past text_of
  second_text = line_after Frame.Header (header_values set.header) (optional_line Frame.Masked set.header.masked ++ behind_masked)

  rule_start : past (pred (rule_line text)) text ≡ behind_masked
  rule_start = ap (λ (n : ℕ). past n text) (sym (masked_lines text)) ∙ past_optional Frame.Masked text 1 behind_masked masked_apart set.header.masked second_text

  tasks_start : past (opening_lines text) text ≡ task_lines ts ++ interrupt_lines is
  tasks_start =
      ap (λ (n : ℕ). past n text) (sym (rule_lines text))
      ∙ past_optional Frame.Rule text (pred (rule_line text)) lists (lists_apart Frame.Rule refl refl refl) set.header.rule rule_start

  interrupts_start : past (lines_to text (length ts) 0) text ≡ interrupt_lines is ++ []
  interrupts_start =
      each_ended task_lined zero_task text (opening_lines text) ts (interrupt_lines is) tasks_start ∙ sym (append-nil (interrupt_lines is))

  -- it has the shape of a file, and ends there
  shaped : Shaped text (length ts) (length is)
  unfolding text_of
  shaped =
      record {
        opened = line_formed Frame.Header (header_values set.header) (optional_line Frame.Masked set.header.masked ++ behind_masked);
        tasks = run_each task_lined zero_task text (opening_lines text) ts (interrupt_lines is) tasks_start;
        interrupts = run_each interrupt_lined zero_interrupt text (lines_to text (length ts) 0) is [] interrupts_start;
      }

  ended : past (lines_to text (length ts) (length is)) text ≡ []
  ended = each_ended interrupt_lined zero_interrupt text (lines_to text (length ts) 0) is [] interrupts_start

  -- it holds the set's tasks and interrupts
  module _ (ok : writer_asks set ≡ false) where
    ask : ask_row set ≡ false
    ask = writer_ask set ok

    task_there : (i : ℕ) → i < length ts → task_at (past (lines_to text i 0) text) ≡ get_or ts i zero_task
    task_there = figures_back task_lined zero_task text (opening_lines text) ts (interrupt_lines is) tasks_start task_at task_overflows task_back (ask_tasks set ask)

    tasks_back : (i : ℕ) → i ≤ length ts → tasks_among text (lines_to text i 0) ≡ take i ts
    tasks_back = each_back task_lined zero_task text (opening_lines text) ts (interrupt_lines is) tasks_start task_at task_overflows task_back (ask_tasks set ask) (among_opening text shaped.opened)

    interrupts_back : (i : ℕ) → i ≤ length is → interrupts_among text (lines_to text (length ts) i) ≡ take i is
    interrupts_back = each_back interrupt_lined zero_interrupt text (lines_to text (length ts) 0) is [] interrupts_start interrupt_at interrupt_overflows interrupt_back (ask_interrupts set ask) (tasks_first text (length ts) (length is) shaped)

    -- each of its lines is clear
    module _ (most : length ts ≤ most_tasks) (few : length is ≤ most_interrupts) where
      task_clear : (i : ℕ) → i < length ts → line_outcome text (suc (lines_to text i 0)) ≡ Ok tt
      task_clear i h =
          let k = lines_to text i 0 in
          let none : interrupts_among text k ≡ [] = run_other task_formed text (opening_lines text) (formed Frame.Interrupt) interrupt_at task_no_interrupt i (run_less task_formed text (opening_lines text) i (length ts) (omega arith) shaped.tasks) ∙ none_opening text shaped.opened in
          let seen : some (has_id (task_at (past k text)).id) (tasks_among text k) ≡ false =
          ap₂ (λ (u : Task) (us : List Task). some (has_id u.id) us) (task_there i h) (tasks_back i (omega arith)) ∙ twice_before ts i zero_task (ask_twice set ask) h in
          let count : length (tasks_among text k) ≡ i = ap length (tasks_back i (omega arith)) ∙ length-take-le i ts (omega arith) in
          let room : eqb (length (tasks_among text k)) most_tasks ≡ false = ne_eqb (length (tasks_among text k)) most_tasks (λ (e : length (tasks_among text k) ≡ most_tasks). omega (arith, count)) in
          later_task text k (lines_some text i 0) none (shaped.tasks i h)
          ∙ ap₂ (λ (a b : Bool). first_of (when a (Count (suc k))) (when b (Twice (suc k)))) room seen

      interrupt_clear : (i : ℕ) → i < length is → line_outcome text (suc (lines_to text (length ts) i)) ≡ Ok tt
      interrupt_clear i h =
          let k = lines_to text (length ts) i in
          let count : length (interrupts_among text k) ≡ i = ap length (interrupts_back i (omega arith)) ∙ length-take-le i is (omega arith) in
          let room : eqb (length (interrupts_among text k)) most_interrupts ≡ false = ne_eqb (length (interrupts_among text k)) most_interrupts (λ (e : length (interrupts_among text k) ≡ most_interrupts). omega (arith, count)) in
          later_interrupt text k (lines_some text (length ts) i) (shaped.interrupts i h) ∙ ap (λ (b : Bool). when b (Count (suc k))) room

      tasks_clear : (i : ℕ) → i ≤ length ts → till (line_outcome text) (lines_to text i 0) ≡ Ok tt
      tasks_clear zero h = (taken_opening text shaped.opened).clear
      tasks_clear (suc i) h = till_suc (line_outcome text) (lines_to text i 0) ∙ rw (tasks_clear i (omega arith)) (task_clear i h)

      lines_clear : (i : ℕ) → i ≤ length is → till (line_outcome text) (lines_to text (length ts) i) ≡ Ok tt
      lines_clear zero h = tasks_clear (length ts) (omega arith)
      lines_clear (suc i) h = till_suc (line_outcome text) (lines_to text (length ts) i) ∙ rw (lines_clear i (omega arith)) (interrupt_clear i h)

      all_clear : 1 ≤ length ts → till (line_outcome text) (length text + 2) ≡ Ok tt
      all_clear any =
          let n = lines_to text (length ts) (length is) in
          let lines : n ≡ suc (n - 1) = omega (arith, lines_some text (length ts) (length is)) in
          clear_past text (n - 1) (length text + 2)
          (ap (λ (k : ℕ). past k text) (sym lines) ∙ ended)
          (omega (arith, any, (shaped_all text (length ts) (length is) shaped ended).0))
          (ap (till (line_outcome text)) (sym lines) ∙ lines_clear (length is) (omega arith))

    -- the set that the text holds
    masked_text_lem : masked_at text ≡ set.header.masked
    unfolding masked_at widths_of
    masked_text_lem = optional_back Frame.Masked text 1 behind_masked masked_apart (omega arith) set.header.masked second_text (ask_masked set ask)

    rule_text_lem : rule_at text ≡ set.header.rule
    unfolding rule_at widths_of
    rule_text_lem = optional_back Frame.Rule text (pred (rule_line text)) lists (lists_apart Frame.Rule refl refl refl) (omega arith) set.header.rule rule_start (ask_rule set ask)

    header_text : file_header text ≡ set.header
    unfolding text_of
    header_text = header_back set.header (optional_line Frame.Masked set.header.masked ++ behind_masked) (ask_header set ask) masked_text_lem rule_text_lem

    tasks_text : file_tasks text ≡ ts
    tasks_text =
        sym (among_all text (lines_to text (length ts) (length is)) ended)
        ∙ tasks_last text (length ts) (length is) shaped ∙ tasks_back (length ts) (omega arith) ∙ take-length ts

    interrupts_text : file_interrupts text ≡ is
    interrupts_text =
        sym (all_interrupts text (lines_to text (length ts) (length is)) ended) ∙ interrupts_back (length is) (omega arith) ∙ take-length is

    file_back : file_set text ≡ set_of set.header ts is
    unfolding file_set
    file_back = λ i. set_of (header_text i) (tasks_text i) (interrupts_text i)

    -- rows 5 and 6 let it pass
    figures_pass : figures_outcome (set_of set.header ts is) ≡ Ok tt
    unfolding set_of
    figures_pass =
        let new = set_of set.header ts is in
        let m = set.header.processors in
        let none : first_task range_row ts ≡ 0 = eqb-true _ 0 (not-false _ (first_some range_row 0 ts ∙ writer_range set ok)) in
        let no-interrupt : first_task (interrupt_row m) is ≡ 0 = eqb-true _ 0 (not-false _ (first_some (interrupt_row m) 0 is ∙ writer_interrupts set ok)) in
        figures_interrupts new (writer_board set ok) (ap (first_task range_row) (members_set set.header ts is) ∙ none) refl
        ∙ ap (λ (xs : List Interrupt). at_task range_at (first_task (interrupt_row m) xs)) (interrupts_set set.header ts is)
        ∙ at_none range_at (first_task (interrupt_row m) is) no-interrupt

pub read_written : ReadWritten
read_written set whole ok =
    let counts = ask_count set (writer_ask set ok) in
    let within = count_within set counts in
    let few = interrupts_within set counts in
    let size : length (members set) ≡ set.count = members_length set (omega (arith, whole.tasks, within.1)) in
    let interrupts : length (interrupts_in set) ≡ set.interrupts.count = length-take-le set.interrupts.count set.interrupts.each (omega (arith, whole.interrupts, few)) in
    reads_clear (text_of set) (all_clear set ok (omega (arith, size, within.1)) (omega (arith, interrupts, few)) (omega (arith, size, within.0)))
    ∙ ap (λ (s : TaskSet). answer (figures_outcome s) s) (file_back set ok)
    ∙ ap (λ (o : Outcome). answer o (set_of set.header (members set) (interrupts_in set))) (figures_pass set ok)

-- a list with its unused room filled up has all its places
filled_up : {A : Type 0} (z : A) (most n : ℕ) (xs : List A) → n ≤ most → length (take n xs ++ replicate (most - length (take n xs)) z) ≡ most
filled_up z most n xs le =
    length-append (take n xs) (replicate (most - length (take n xs)) z)
    ∙ omega (arith, length-replicate (most - length (take n xs)) z, length-take n xs, min-le_left n (length xs))

-- so a set whose unused room is zero has all its places
all_places_lem : (set : TaskSet) → set ≡ set_of set.header (members set) (interrupts_in set) → set.count ≤ most_tasks → set.interrupts.count ≤ most_interrupts → Whole set
unfolding set_of interrupts_with
all_places_lem set e most few =
    record {
      tasks = ap (λ (s : TaskSet). length s.tasks) e ∙ filled_up zero_task most_tasks set.count set.tasks most;
      interrupts = ap (λ (s : TaskSet). length s.interrupts.each) e ∙ filled_up zero_interrupt most_interrupts set.interrupts.count set.interrupts.each few;
    }

pub read_written_same : ReadWrittenSame
read_written_same set e ok =
    let counts = ask_count set (writer_ask set ok) in
    read_written set (all_places_lem set e (count_within set counts).1 (interrupts_within set counts)) ok ∙ ap (answer (Ok tt)) (sym e)
