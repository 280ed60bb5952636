-- A file that is accepted can be written again, and has the same bytes: each of its lines is the line of its own figures.
-- Assumes nothing.
use Rattle.std.specs.Prelude.{None, Ok, Option, Some}
use Prim.Native.Nat.{ℕ, zero, suc, pred, ◌^◌, ◌≤◌, ◌<◌}
use mathlib.Core.Path.{◌≡◌, refl, sym, ◌∙◌, ap, ap₂}
use mathlib.Core.Bool.{Bool, true, false, cond}
use mathlib.Core.List.{List, [], ◌∷◌, ◌++◌, append_assoc, append-nil}
use mathlib.Core.Logic.{⊎_elim}
use native.Mathlib.Omega.{arith}
use lib.Dec.{leb, eqb}
use lib.ListN.{length, get_or}
use borrow.Author.Tests.{lt-leb}
use Rattle.laws.proofs.Tests.{or_either, or_neither}
use Rattle.frames.specs.Table.{widths_of, fields_in}
use Rattle.frameread.specs.Line.{after, formed, field_of}
use Rattle.framewrite.specs.Line.{line_of, fields}
use Rattle.framelines.specs.Each.{each_line}
use Rattle.framelines.proofs.EachLaws.{each_nil, each_one, each_append}
use Rattle.framesizes.specs.Overflow.{line_overflows, some_too_large}
use Rattle.frames.specs.declared.table.Frame.{Frame}
use Rattle.refusals.specs.declared.Refusal.TheVariants.{Count, Twice}
use Rattle.frameread.proofs.Formed.{field_below}
use Rattle.frameread.proofs.KindLaws.{not_formed}
use Rattle.frames_claims.specs.Values.{fields_from, fields_of}
use Rattle.frames_claims.proofs.LineLaws.{line_fields}
use Rattle.tasks.specs.declared.set.Header.{Header}
use Rattle.tasks.specs.declared.set.Interrupt.{Interrupt}
use Rattle.tasks.specs.declared.set.Task.{Task}
use Rattle.tasks.specs.declared.set.TaskSet.{TaskSet}
use Rattle.tasks.specs.Set.{most_tasks, zero_task, zero_interrupt, members, interrupts_in, has_id}
use Rattle.refusals.specs.First.{when}
use Rattle.tasks.specs.Search.{some}
use Rattle.taskask.specs.Ask.{twice_row, header_overflows, task_overflows, optional_overflows, interrupt_overflows}
use Rattle.taskrows.specs.Rows.{board_row, range_row, interrupt_row}
use Rattle.taskfile.specs.File.{past, line_outcome, header_at, given_by, rule_line, file_header, opening_lines, task_formed, task_kind, cache_at, task_at, interrupt_at, among, tasks_among, interrupts_among, file_tasks, file_interrupts}
use Rattle.taskread.specs.Read.{read_of}
use Rattle.tasks_claims.specs.Claims.{Opened, lines_with, lines_to, Run, Shaped, tasks_in, interrupt_count, AcceptedFile, NoRow, WrittenRead}
use Rattle.tasks.specs.Values.{header_values, interrupt_values}
use Rattle.optionallines.specs.Lines.{optional_line, interrupt_line, interrupt_lines}
use Rattle.tasktext.specs.Text.{task_line, task_lines, text_of}
use Rattle.taskwrite.specs.Write.{writer_asks}
use Rattle.refusals.proofs.FirstLaws.{first_done, when_done}
use Rattle.taskask.proofs.Carried.{count_right, ask_rows}
use Rattle.tasks_claims.proofs.Accepted.{read_accepted}
use Rattle.tasks_claims.proofs.Exactly.{read_exactly_done}
use Rattle.tasks.proofs.Some.{some_nil, some_more}
use Rattle.taskask.proofs.TwiceLaws.{twice_nil, twice_more}
use Rattle.tasks.proofs.SearchLaws.{some_nowhere}
use Rattle.taskfile.proofs.Lines.{masked_lines, rule_lines, later_task, clear_none}
use Rattle.taskfile.proofs.OpeningLaws.{among_opening}
use Rattle.taskfile.proofs.AmongLaws.{among_here, among_task, among_all, all_interrupts}
use Rattle.tasks_claims.proofs.RunLaws.{run_less}
use Rattle.tasks_claims.proofs.ShapedLaws.{past_next, given_there, given_absent, file_masked, file_rule, lines_some, tasks_first, tasks_last}
use Rattle.taskwrite.proofs.WriteAsks.{writer_rows}
use Rattle.optionallines.proofs.OptionalLaws.{optional_none, optional_given}

-- a line of a kind is the line of its own figures
header_again : (text : List ℕ) → formed Frame.Header text ≡ true → text ≡ line_of Frame.Header (header_values (file_header text)) ++ after text
unfolding file_header header_at fields_from fields_of widths_of
header_again text f = line_fields Frame.Header text f

figure_again : (kind : Frame) → fields_in kind ≡ 1 → (rest : List ℕ) → formed kind rest ≡ true → rest ≡ line_of kind (field_of kind 0 rest ∷ []) ++ after rest
unfolding fields_from fields_of
figure_again kind one rest f = line_fields kind rest f ∙ ap (λ (n : ℕ). line_of kind (fields_from kind rest 0 n) ++ after rest) one

interrupt_again : (rest : List ℕ) → formed Frame.Interrupt rest ≡ true → rest ≡ line_of Frame.Interrupt (interrupt_values (interrupt_at rest)) ++ after rest
unfolding interrupt_at fields_from fields_of widths_of
interrupt_again rest f = line_fields Frame.Interrupt rest f

-- a task's of either kind
plain_again : (rest : List ℕ) → formed Frame.Task rest ≡ true → rest ≡ task_line (task_at rest) ++ after rest
unfolding task_at task_kind cache_at fields_from fields_of widths_of line_of fields
plain_again rest f = rw (not_formed Frame.Task Frame.Cached refl rest f) (line_fields Frame.Task rest f)

cached_again : (rest : List ℕ) → formed Frame.Cached rest ≡ true → rest ≡ task_line (task_at rest) ++ after rest
unfolding task_at task_kind cache_at fields_from fields_of widths_of
cached_again rest f = rw f (line_fields Frame.Cached rest f)

task_again : (rest : List ℕ) → task_formed rest ≡ true → rest ≡ task_line (task_at rest) ++ after rest
unfolding task_formed
task_again rest f = ⊎_elim (plain_again rest) (cached_again rest) (or_either (formed Frame.Task rest) (formed Frame.Cached rest) f)

past_one : (text : List ℕ) → past 1 text ≡ after text
unfolding past
past_one text = refl

-- lines that pass a test behind so many, of which none before does: each is the line of its own figures
module _ {A : Type 0} (test : List ℕ → Bool) (figures : List ℕ → A) (text : List ℕ) (lines : ℕ) (none : among test figures text lines ≡ []) where
  -- what follows is the lines of those so far, and the rest
  lines_again : (line : A → List ℕ) → ((rest : List ℕ) → test rest ≡ true → rest ≡ line (figures rest) ++ after rest)
      → (n : ℕ) → Run test text lines n → past lines text ≡ each_line line (among test figures text (lines_with lines n)) ++ past (lines_with lines n) text
  lines_again line again zero run = ap (λ (l : List ℕ). l ++ past lines text) (sym (ap (each_line line) none ∙ each_nil line))
  lines_again line again (suc n) run =
      let k = lines_with lines n in
      let rest = past k text in
      let held = among test figures text k in
      let x = figures rest in
      let next : rest ≡ line x ++ past (suc k) text = again rest (run n (omega arith)) ∙ ap (λ (l : List ℕ). line x ++ l) (sym (past_next text k)) in
      lines_again line again n (run_less test text lines n (suc n) (omega arith) run)
      ∙ ap (λ (l : List ℕ). each_line line held ++ l) (next ∙ ap (λ (l : List ℕ). l ++ past (suc k) text) (sym (each_one line x)))
      ∙ sym (append_assoc (each_line line held) (each_line line (x ∷ [])) (past (suc k) text))
      ∙ ap (λ (l : List ℕ). l ++ past (suc k) text) (sym (each_append line held (x ∷ [])) ∙ ap (each_line line) (sym (among_here test figures text k (run n (omega arith)))))

  -- and where no line's figures are too large, none of them is
  lines_fit : (overflows : A → Bool) → ((rest : List ℕ) → test rest ≡ true → overflows (figures rest) ≡ false)
      → (n : ℕ) → Run test text lines n → some overflows (among test figures text (lines_with lines n)) ≡ false
  lines_fit overflows fit zero run = ap (some overflows) none ∙ some_nil overflows
  lines_fit overflows fit (suc n) run =
      let k = lines_with lines n in
      ap (some overflows) (among_here test figures text k (run n (omega arith)))
      ∙ some_more overflows (among test figures text k) (figures (past k text)) (lines_fit overflows fit n (run_less test text lines n (suc n) (omega arith) run)) (fit (past k text) (run n (omega arith)))

-- a line that may be there is the line of what it gives, or there is none
optional_again : (kind : Frame) → fields_in kind ≡ 1 → (text : List ℕ) (k : ℕ) → past k text ≡ optional_line kind (given_by kind (past k text)) ++ past (cond (formed kind (past k text)) (suc k) k) text
optional_again kind one text k = by_kind (formed kind (past k text)) refl
  where
    by_kind : (b : Bool) → formed kind (past k text) ≡ b → past k text ≡ optional_line kind (given_by kind (past k text)) ++ past (cond b (suc k) k) text
    by_kind true e =
        figure_again kind one (past k text) e ∙ ap₂ ◌++◌ (sym (optional_given kind (given_there kind (past k text) e))) (sym (past_next text k))
    by_kind false e = ap (λ (l : List ℕ). l ++ past k text) (sym (optional_none kind (given_absent kind (past k text) e)))

-- the 05 line and the 06 line of a file, and what follows
abbrev masked_text : List ℕ → List ℕ
masked_text text = optional_line Frame.Masked (given_by Frame.Masked (past 1 text))

abbrev rule_text : List ℕ → List ℕ
rule_text text = optional_line Frame.Rule (given_by Frame.Rule (past (pred (rule_line text)) text))

second_again : (text : List ℕ) → past 1 text ≡ masked_text text ++ (rule_text text ++ past (opening_lines text) text)
unfolding widths_of
second_again text =
    optional_again Frame.Masked refl text 1
    ∙ ap (λ (l : List ℕ). masked_text text ++ l)
    (ap (λ (n : ℕ). past n text) (masked_lines text)
    ∙ optional_again Frame.Rule refl text (pred (rule_line text))
    ∙ ap (λ (n : ℕ). rule_text text ++ past n text) (rule_lines text))

-- the tasks and the interrupts of a file that ends behind them
module _ (text : List ℕ) (n k : ℕ) (s : Shaped text n k) (end : past (lines_to text n k) text ≡ []) where
  tasks_all : tasks_among text (lines_to text n 0) ≡ file_tasks text
  tasks_all = sym (tasks_last text n k s) ∙ among_all text (lines_to text n k) end

  interrupts_all : interrupts_among text (lines_to text n k) ≡ file_interrupts text
  interrupts_all = all_interrupts text (lines_to text n k) end

  rest_again : past (opening_lines text) text ≡ task_lines (file_tasks text) ++ interrupt_lines (file_interrupts text)
  rest_again =
      lines_again task_formed task_at text (opening_lines text) (among_opening text s.opened) task_line task_again n s.tasks
      ∙ ap₂ (λ (ts : List Task) (l : List ℕ). task_lines ts ++ l) tasks_all
      (lines_again (formed Frame.Interrupt) interrupt_at text (lines_to text n 0) (tasks_first text n k s) interrupt_line interrupt_again k s.interrupts
      ∙ ap₂ (λ (is : List Interrupt) (l : List ℕ). interrupt_lines is ++ l) interrupts_all end
      ∙ append-nil (interrupt_lines (file_interrupts text)))

  text_again : line_of Frame.Header (header_values (file_header text)) ++ (masked_text text ++ (rule_text text ++ (task_lines (file_tasks text) ++ interrupt_lines (file_interrupts text)))) ≡ text
  text_again =
      let first = line_of Frame.Header (header_values (file_header text)) in
      ap (λ (l : List ℕ). first ++ (masked_text text ++ (rule_text text ++ l))) (sym rest_again)
      ∙ ap (λ (l : List ℕ). first ++ l) (sym (second_again text) ∙ past_one text)
      ∙ sym (header_again text s.opened)

-- figures that were read fit their fields
header_fits : (text : List ℕ) → formed Frame.Header text ≡ true → header_overflows (file_header text) ≡ false
unfolding header_overflows line_overflows some_too_large file_header header_at widths_of
header_fits text f =
    or_neither (fits 0) (or_neither (fits 1) (or_neither (fits 2) (or_neither (fits 3) (or_neither (fits 4) (or_neither (fits 5) (or_neither (fits 6) refl))))))
  where
    fits : (k : ℕ) → leb (16 ^ lib.ListN.get_or (widths_of Frame.Header) k 0) (field_of Frame.Header k text) ≡ false
    fits k = lt-leb _ _ (field_below Frame.Header text f k)

figure_fits : (widths : List ℕ) (x : ℕ) → x < 16 ^ get_or widths 0 0 → some_too_large widths (x ∷ []) ≡ false
unfolding some_too_large
figure_fits [] x below = refl
figure_fits (w ∷ []) x below = or_neither (lt-leb _ _ below) refl
figure_fits (w ∷ v ∷ ws) x below = or_neither (lt-leb _ _ below) refl

optional_fits : (kind : Frame) (rest : List ℕ) → optional_overflows kind (given_by kind rest) ≡ false
unfolding optional_overflows line_overflows
optional_fits kind rest = by_kind (formed kind rest) refl
  where
    by_kind : (b : Bool) → formed kind rest ≡ b → optional_overflows kind (cond b (Some (field_of kind 0 rest)) None) ≡ false
    by_kind true e = figure_fits (widths_of kind) (field_of kind 0 rest) (field_below kind rest e 0)
    by_kind false e = refl

interrupt_fits : (rest : List ℕ) → formed Frame.Interrupt rest ≡ true → interrupt_overflows (interrupt_at rest) ≡ false
unfolding interrupt_overflows line_overflows some_too_large interrupt_at widths_of
interrupt_fits rest f = or_neither (fits 0) (or_neither (fits 1) (or_neither (fits 2) (or_neither (fits 3) (or_neither (fits 4) refl))))
  where
    fits : (k : ℕ) → leb (16 ^ lib.ListN.get_or (widths_of Frame.Interrupt) k 0) (field_of Frame.Interrupt k rest) ≡ false
    fits k = lt-leb _ _ (field_below Frame.Interrupt rest f k)

plain_fits : (rest : List ℕ) → formed Frame.Task rest ≡ true → task_overflows (task_at rest) ≡ false
unfolding task_overflows line_overflows some_too_large task_at task_kind cache_at widths_of
plain_fits rest f =
    rw (not_formed Frame.Task Frame.Cached refl rest f) (or_neither (fits 0) (or_neither (fits 1) (or_neither (fits 2) (or_neither (fits 3) refl))))
  where
    fits : (k : ℕ) → leb (16 ^ lib.ListN.get_or (widths_of Frame.Task) k 0) (field_of Frame.Task k rest) ≡ false
    fits k = lt-leb _ _ (field_below Frame.Task rest f k)

cached_fits : (rest : List ℕ) → formed Frame.Cached rest ≡ true → task_overflows (task_at rest) ≡ false
unfolding task_overflows line_overflows some_too_large task_at task_kind cache_at widths_of
cached_fits rest f =
    rw f (or_neither (fits 0) (or_neither (fits 1) (or_neither (fits 2) (or_neither (fits 3) (or_neither (fits 4) refl)))))
  where
    fits : (k : ℕ) → leb (16 ^ lib.ListN.get_or (widths_of Frame.Cached) k 0) (field_of Frame.Cached k rest) ≡ false
    fits k = lt-leb _ _ (field_below Frame.Cached rest f k)

task_fits : (rest : List ℕ) → task_formed rest ≡ true → task_overflows (task_at rest) ≡ false
unfolding task_formed
task_fits rest f = ⊎_elim (plain_fits rest) (cached_fits rest) (or_either (formed Frame.Task rest) (formed Frame.Cached rest) f)

-- a task's line that is clear has an id that none before it has
id_new : (text : List ℕ) (k : ℕ) → 1 ≤ k → task_formed (past k text) ≡ true → line_outcome text (suc k) ≡ Ok tt → some (has_id (task_at (past k text)).id) (tasks_among text k) ≡ false
id_new text k one task clear =
    let b = some (has_id (task_at (past k text)).id) (tasks_among text k) in
    when_done b (Twice (suc k))
    (first_done (when (eqb (length (tasks_among text k)) most_tasks) (Count (suc k))) (when b (Twice (suc k))) (sym (later_task text k one (clear_none text k one task clear) task) ∙ clear)).1

ids_new : (text : List ℕ) (i : ℕ) → Opened text → Run task_formed text (opening_lines text) i → ((j : ℕ) → 1 ≤ j → line_outcome text j ≡ Ok tt) → twice_row (tasks_among text (lines_to text i 0)) ≡ false
ids_new text zero opened run clear = ap twice_row (among_opening text opened) ∙ twice_nil
ids_new text (suc i) opened run clear =
    let k = lines_to text i 0 in
    let task = run i (omega arith) in
    ap twice_row (among_task text k task)
    ∙ twice_more (tasks_among text k) (task_at (past k text)) (ids_new text i opened (run_less task_formed text (opening_lines text) i (suc i) (omega arith) run) clear)
    (id_new text k (lines_some text i 0) task (clear (suc k) (omega arith)))

-- what an accepted file gives can be written, and the text is the file's
module _ (text : List ℕ) (taken : AcceptedFile text) (none : NoRow text) where
  abbrev set : TaskSet
  set = (read_of text).set

  abbrev s : Shaped text (tasks_in text) (interrupt_count text)
  s = taken.shaped

  -- the tasks and the interrupts of the file's lines are those of the answer
  all : members set ≡ tasks_among text (lines_to text (tasks_in text) 0)
  all = taken.tasks ∙ sym (tasks_all text (tasks_in text) (interrupt_count text) s taken.ended)

  listed : interrupts_in set ≡ interrupts_among text (lines_to text (tasks_in text) (interrupt_count text))
  listed = taken.interrupts ∙ sym (interrupts_all text (tasks_in text) (interrupt_count text) s taken.ended)

  right : writer_asks set ≡ false
  right =
      writer_rows set
      (ask_rows set (count_right set (omega (arith, taken.count, taken.any)) (omega (arith, taken.count, taken.most)) (omega (arith, taken.counted, taken.few)))
      (ap twice_row all ∙ ids_new text (tasks_in text) s.opened s.tasks none.clear)
      (ap header_overflows taken.header ∙ header_fits text s.opened)
      (ap (some task_overflows) all ∙ lines_fit task_formed task_at text (opening_lines text) (among_opening text s.opened) task_overflows task_fits (tasks_in text) s.tasks)
      (ap (λ (h : Header). optional_overflows Frame.Masked h.masked) taken.header ∙ ap (optional_overflows Frame.Masked) (file_masked text) ∙ optional_fits Frame.Masked (past 1 text))
      (ap (λ (h : Header). optional_overflows Frame.Rule h.rule) taken.header ∙ ap (optional_overflows Frame.Rule) (file_rule text) ∙ optional_fits Frame.Rule (past (pred (rule_line text)) text))
      (ap (some interrupt_overflows) listed ∙ lines_fit (formed Frame.Interrupt) interrupt_at text (lines_to text (tasks_in text) 0) (tasks_first text (tasks_in text) (interrupt_count text) s) interrupt_overflows interrupt_fits (interrupt_count text) s.interrupts))
      (ap board_row taken.header ∙ none.board)
      (ap (some range_row) taken.tasks ∙ some_nowhere range_row zero_task (file_tasks text) (λ j lt. none.range (suc j) (omega arith) (omega arith)))
      (ap₂ (λ (h : Header) (is : List Interrupt). some (interrupt_row h.processors) is) taken.header taken.interrupts ∙ some_nowhere (interrupt_row (file_header text).processors) zero_interrupt (file_interrupts text) (λ j lt. none.interrupts (suc j) (omega arith) (omega arith)))

  same : text_of set ≡ text
  unfolding text_of
  same =
      let tail = task_lines (file_tasks text) ++ interrupt_lines (file_interrupts text) in
      (λ i. line_of Frame.Header (header_values (taken.header i)) ++ (optional_line Frame.Masked (taken.header i).masked ++ (optional_line Frame.Rule (taken.header i).rule ++ (task_lines (taken.tasks i) ++ interrupt_lines (taken.interrupts i)))))
      ∙ ap₂ (λ (m r : Option ℕ). line_of Frame.Header (header_values (file_header text)) ++ (optional_line Frame.Masked m ++ (optional_line Frame.Rule r ++ tail))) (file_masked text) (file_rule text)
      ∙ text_again text (tasks_in text) (interrupt_count text) s taken.ended

pub written_read : WrittenRead
written_read text done =
    let taken = read_accepted text done in
    let none = (read_exactly_done text).0 done in
    (right text taken none, same text taken none)
