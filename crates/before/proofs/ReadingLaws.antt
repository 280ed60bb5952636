-- A text without a 06 line is read as before Req 05, without an 03 line either as before Req 07, without a 07 line either as before Req 08,
-- and that, without a 05 line, as before Req 04: at each line that decides, the same rows hold. Without an 03 line its tasks have no cache costs of their own.
-- Assumes nothing.
use Rattle.std.specs.Prelude.{Err, None, Ok, Option}
use Prim.Native.Nat.{ℕ, zero, suc, ◌+◌, ◌-◌, ◌≤◌, ◌<◌}
use native.Mathlib.Omega.{arith}
use mathlib.Core.List.{List, [], ◌∷◌, ◌++◌, append-nil}
use mathlib.Core.Bool.{Bool, true, false, not, cond, ◌&&◌, ◌||◌, or-false, and-false}
use mathlib.Core.Path.{◌≡◌, refl, sym, ◌∙◌, ap, ap₂, subst}
use lib.ListN.{length, replicate}
use lib.Seq.{take_at}
use lib.Dec.{leb, ltb, eqb}
use borrow.Author.Tests.{eqb-true}
use Rattle.frames.specs.declared.table.Frame.{Frame}
use Rattle.frameread.specs.Line.{formed, closed}
use Rattle.refusals.specs.declared.Refusal.{Refusal}
use Rattle.refusals.specs.declared.Refusal.TheVariants.{Line, Order, Count, Board, Range}
use Rattle.refusals.specs.Refused.{Outcome}
use Rattle.refusals.specs.First.{first_of, when, till}
use Rattle.laws.proofs.Tests.{true_false, or_left}
use Rattle.refusals.proofs.FirstLaws.{stays}
use Rattle.demand.specs.Load.{Every}
use Rattle.demand.proofs.Demand.{every_snoc}
use Rattle.tasks.specs.declared.set.Interrupt.{Interrupt}
use Rattle.tasks.specs.declared.set.Task.{Task}
use Rattle.tasks.specs.declared.set.TaskSet.{TaskSet}
use Rattle.tasks.specs.Set.{most_tasks, most_processors, last_rule, given_or, with_lines, members, interrupts_in, interrupts_with, set_of, zero_task}
use Rattle.tasks.specs.Search.{some, first_task, at_task}
use Rattle.tasks.specs.declared.set.Header.{Header}
use Rattle.taskrows.specs.Rows.{board_row, range_row, interrupt_row, range_at, figures_outcome}
use Rattle.taskfile.specs.File.{past, present, empty, is_header, is_task, is_masked, is_interrupt, task_formed, task_at, cache_at, late_task, line_row, order_row, count_line_row, line_outcome, header_at, masked_at, rule_line, rule_at, file_header, among, tasks_among, interrupts_among, file_tasks, file_interrupts}
use Rattle.taskfile.proofs.AmongLaws.{task_counts}
use Rattle.taskfile.proofs.Lines.{clear_header}
use Rattle.taskread.specs.Read.{answer, file_set, read_outcome, read_of}
use Rattle.before.specs.Earlier.{Earlier, before04, before05, before07, before08, known, one_too_many, is_plain, masked_header}
use Rattle.before.specs.Reading.{had_line, had_set, had_board, had_figures, had_read_outcome, had_read}
use Rattle.before.specs.Claims.{NoRuleLine, NoCachedLine, NoMaskedLine, NoInterruptLine, Unruled, Uncached}

-- outcomes that are alike up to n are alike there
till_same : (f g : ℕ → Outcome) (n : ℕ) → ((j : ℕ) → j < n → f (suc j) ≡ g (suc j)) → till f n ≡ till g n
unfolding till
till_same f g zero same = refl
till_same f g (suc n) same = ap₂ first_of (till_same f g n (λ j lt. same j (omega arith))) (same n (omega arith))

-- so are outcomes whose first that refuses is the same
till_first : (f g : ℕ → Outcome) (k n : ℕ) (r : Refusal) → till f k ≡ Ok tt → till g k ≡ Ok tt → f (suc k) ≡ Err r → g (suc k) ≡ Err r → k < n → till f n ≡ till g n
till_first f g k n r clear clear' e e' lt = stays f k n r clear e lt ∙ sym (stays g k n r clear' e' lt)

not_both : (b : Bool) → (b && not b) ≡ false
not_both true = refl
not_both false = refl

till_none : (f : ℕ → Outcome) → till f 0 ≡ Ok tt
unfolding till
till_none f = refl

till_one : (f : ℕ → Outcome) → f 1 ≡ Ok tt → till f 1 ≡ Ok tt
unfolding till
till_one f e = e

-- row 5 of a header without a rule
board_same : (h : Header) → h.rule ≡ None → board_row h ≡ had_board h
unfolding board_row had_board
board_same h unruled =
    let m = not (leb 1 h.processors && leb h.processors most_processors) in
    ap (λ (rule : Option ℕ). m || (eqb h.slot 0 || ltb last_rule (given_or rule 0))) unruled ∙ ap (λ (b : Bool). m || b) (or-false (eqb h.slot 0))

-- rows 5 and 6 of a set without a rule whose interrupts were known
pub figures_same : (e : Earlier) (set : TaskSet) → Unruled set → interrupts_in set ≡ known e (interrupts_in set) → figures_outcome set ≡ had_figures e set
unfolding figures_outcome had_figures
figures_same e set unruled all =
    ap₂
    (λ (board : Bool) (is : List Interrupt).
    first_of (when board Board)
    (first_of (at_task Range (first_task range_row (members set))) (at_task range_at (first_task (interrupt_row set.header.processors) is))))
    (board_same set.header unruled)
    all

-- a text whose lines refuse it as they did, and hold the set that they held
read_by : (e : Earlier) (text : List ℕ) → till (line_outcome text) (length text + 2) ≡ till (had_line e text) (length text + 2) → file_set text ≡ had_set e text →
    Unruled (had_set e text) → interrupts_in (had_set e text) ≡ known e (interrupts_in (had_set e text)) → read_of text ≡ had_read e text
unfolding read_of read_outcome had_read had_read_outcome
read_by e text lines set unruled all =
    ap₂ (λ (o : Outcome) (set : TaskSet). answer (first_of o (figures_outcome set)) set) lines set
    ∙ ap (λ (o : Outcome). answer (first_of (till (had_line e text) (length text + 2)) o) (had_set e text)) (figures_same e (had_set e text) unruled all)

-- ---- without a 06 line, as before Req 05

-- a 06 line may stand at line 2 or 3
later : (text : List ℕ) → 1 ≤ rule_line text
unfolding rule_line
later text = go (is_masked text 2)
  where
    go : (b : Bool) → 1 ≤ cond b 3 2
    go true = omega arith
    go false = omega arith

module _ (text : List ℕ) (unruled : NoRuleLine text) where
  -- rows 1 and 2 at a line, and so all rows there
  line_unruled : (n : ℕ) → line_row text (suc n) ≡ before05.line text (suc n)
  unfolding line_row some
  line_unruled n = rw (unruled (suc n) (omega arith), or-false (is_interrupt text (suc n))) refl

  order_unruled : (n : ℕ) → order_row text (suc n) ≡ before05.order text (suc n)
  unfolding order_row
  order_unruled n = rw (unruled (suc n) (omega arith), or-false (is_masked text (suc n) && not (eqb (suc n) 2))) refl

  rows_unruled : (n : ℕ) → line_outcome text (suc n) ≡ had_line before05 text (suc n)
  unfolding line_outcome had_line
  rows_unruled n = rw (line_unruled n, order_unruled n) refl

  -- the line at which a 06 line may stand is none, so the header has no rule
  rule_unruled : rule_at text ≡ None
  unfolding rule_at
  rule_unruled = rw (unruled (rule_line text) (later text)) refl

  header_unruled : file_header text ≡ masked_header text
  unfolding file_header
  header_unruled = ap (with_lines (header_at text) (masked_at text)) rule_unruled

  -- the set that the lines hold
  set_unruled : file_set text ≡ had_set before05 text
  unfolding file_set had_set
  set_unruled = ap (λ (h : Header). set_of h (file_tasks text) (file_interrupts text)) header_unruled

  lines_unruled : (n : ℕ) → till (line_outcome text) n ≡ till (had_line before05 text) n
  lines_unruled n = till_same (line_outcome text) (had_line before05 text) n (λ j lt. rows_unruled j)

  pub read_unruled : read_of text ≡ had_read before05 text
  unfolding had_set set_of
  read_unruled = read_by before05 text (lines_unruled (length text + 2)) set_unruled refl refl

-- ---- without an 03 line, as before Req 07

module _ (text : List ℕ) (unruled : NoRuleLine text) (uncached : NoCachedLine text) where
  -- row 1 at a line, and so all rows there
  line_uncached : (n : ℕ) → before05.line text (suc n) ≡ before07.line text (suc n)
  line_uncached n = rw (uncached (suc n) (omega arith)) refl

  rows_uncached : (n : ℕ) → had_line before05 text (suc n) ≡ had_line before07 text (suc n)
  unfolding had_line
  rows_uncached n = rw (line_uncached n) refl

  -- the set that the lines hold
  set_uncached : file_set text ≡ had_set before07 text
  unfolding had_set
  set_uncached = set_unruled text unruled

  lines_uncached : (n : ℕ) → till (line_outcome text) n ≡ till (had_line before07 text) n
  lines_uncached n = lines_unruled text unruled n ∙ till_same (had_line before05 text) (had_line before07 text) n (λ j lt. rows_uncached j)

  pub read_uncached : read_of text ≡ had_read before07 text
  unfolding had_set set_of
  read_uncached = read_by before07 text (lines_uncached (length text + 2)) set_uncached refl refl

module _ (text : List ℕ) (uncached : NoCachedLine text) where
  abbrev Own : Task → Type 0
  Own t = t.cache ≡ None

  -- its tasks stand in 02 lines
  plain_at : (n : ℕ) → Own (task_at (past n text))
  unfolding task_at cache_at
  plain_at n = rw (uncached (suc n) (omega arith)) refl

  plain_more : (n : ℕ) (b : Bool) → Every Own (tasks_among text n) → Every Own (tasks_among text n ++ cond b (task_at (past n text) ∷ []) [])
  plain_more n true all = every_snoc Own (tasks_among text n) (task_at (past n text)) all (plain_at n)
  plain_more n false all = subst (Every Own) (sym (append-nil (tasks_among text n))) all

  plain_among : (n : ℕ) → Every Own (tasks_among text n)
  unfolding among
  plain_among zero = tt
  plain_among (suc n) = plain_more n (task_formed (past n text)) (plain_among n)

  pub had_uncached : (e : Earlier) → Uncached (had_set e text)
  unfolding had_set set_of
  had_uncached e = subst (Every Own) (sym (take_at (file_tasks text) (replicate (most_tasks - length (file_tasks text)) zero_task) (length (file_tasks text)) refl)) (plain_among (length text))

-- ---- without a 07 line, as before Req 08

module _ (text : List ℕ) (unruled : NoRuleLine text) (uncached : NoCachedLine text) (without : NoInterruptLine text) where
  none_among : (n : ℕ) → interrupts_among text n ≡ []
  unfolding among
  none_among zero = refl
  none_among (suc n) = rw (none_among n, without (suc n) (omega arith)) refl

  line_now : (n : ℕ) → before07.line text (suc n) ≡ before08.line text (suc n)
  line_now n = rw (without (suc n) (omega arith), or-false (is_masked text (suc n))) refl

  never_late : (n : ℕ) → late_task text (suc n) ≡ false
  never_late n = rw (none_among n) (and-false (is_task text (suc n)))

  order_now : (n : ℕ) → before07.order text (suc n) ≡ before08.order text (suc n)
  order_now n = rw (never_late n, or-false (is_masked text (suc n) && not (eqb (suc n) 2))) refl

  count_now : (n : ℕ) → before07.count text (suc n) ≡ before08.count text (suc n)
  unfolding count_line_row one_too_many
  count_now n = rw (without (suc n) (omega arith), or-false (is_task text (suc n) && eqb (length (tasks_among text n)) most_tasks)) refl

  rows_now : (n : ℕ) → had_line before07 text (suc n) ≡ had_line before08 text (suc n)
  unfolding had_line
  rows_now n = rw (line_now n, order_now n, count_now n) refl

  set_now : file_set text ≡ had_set before08 text
  unfolding had_set
  set_now = set_unruled text unruled ∙ ap (set_of (masked_header text) (file_tasks text)) (none_among (length text))

  lines_now : (n : ℕ) → till (line_outcome text) n ≡ till (had_line before08 text) n
  lines_now n = lines_uncached text unruled uncached n ∙ till_same (had_line before07 text) (had_line before08 text) n (λ j lt. rows_now j)

  -- line 1 is clear now where it was
  pub clear_now : had_line before08 text 1 ≡ Ok tt → line_outcome text 1 ≡ Ok tt
  clear_now clear = rows_unruled text unruled 0 ∙ (rows_uncached text unruled uncached 0 ∙ (rows_now 0 ∙ clear))

  pub read_now : read_of text ≡ had_read before08 text
  unfolding had_set set_of interrupts_with
  read_now = read_by before08 text (lines_now (length text + 2)) set_now refl refl

-- ---- without a 05 line, as before Req 04

-- an 01 line is there
header_there : (text : List ℕ) → formed Frame.Header text ≡ true → empty text ≡ false
unfolding formed closed
header_there [] f = true_false (sym f)
header_there (b ∷ bs) f = refl

module _ (text : List ℕ) (unruled : NoRuleLine text) (uncached : NoCachedLine text) (without : NoMaskedLine text) (uninterrupted : NoInterruptLine text) where
  -- a line is refused, and as before
  abbrev Alike : ℕ → Type 0
  Alike k = (r : Refusal) × (had_line before08 text k ≡ Err r) × (had_line before04 text k ≡ Err r)

  line_same : (n : ℕ) → before08.line text (suc n) ≡ before04.line text (suc n)
  line_same n = rw (without (suc n) (omega arith), or-false (is_plain text (suc n))) refl

  order_same : (n : ℕ) → before08.order text (suc n) ≡ before04.order text (suc n)
  order_same n = rw (without (suc n) (omega arith), or-false (is_header text (suc n))) refl

  -- the rows at a line, with COUNT's told beside
  rows_same : (n : ℕ) → before08.count text (suc n) ≡ before04.count text (suc n) → had_line before08 text (suc n) ≡ had_line before04 text (suc n)
  unfolding had_line
  rows_same n count = rw (line_same n, order_same n, count) refl

  -- ---- a file with a task

  count_some : (n : ℕ) → eqb (length (file_tasks text)) 0 ≡ false → before08.count text (suc n) ≡ before04.count text (suc n)
  count_some n some = rw some (simp and-false)

  -- ---- line 1, which never counts

  count_first : before08.count text 1 ≡ before04.count text 1
  unfolding past
  count_first = rw (not_both (present text 1)) refl

  first_same : had_line before08 text 1 ≡ had_line before04 text 1
  first_same = rows_same 0 count_first

  -- ---- line 2 of a file without a task, whose line 1 is an 01 line

  module _ (none : eqb (length (file_tasks text)) 0 ≡ true) (header : formed Frame.Header text ≡ true) where
    no_task : is_task text 2 ≡ false
    no_task = go (is_task text 2) refl
      where
        go : (b : Bool) → is_task text 2 ≡ b → b ≡ false
        go false e = refl
        go true e = absurd (omega (arith, task_counts text 1 e, eqb-true (length (file_tasks text)) 0 none))

    no_plain : is_plain text 2 ≡ false
    unfolding task_formed
    no_plain = or_left (is_plain text 2) (formed Frame.Cached (past 1 text)) no_task

    -- it is there: no kind that was admitted but 01, so it is LINE or ORDER, whatever COUNT says
    second_there : (b : Bool) → is_header text 2 ≡ b → present text 2 ≡ true → Alike 2
    unfolding had_line
    second_there true e there = (Order 2, rw (there, e) refl, rw (there, e) refl)
    second_there false e there = (Line 2, rw (there, e, no_plain, without 2 (omega arith)) refl, rw (there, e, no_plain) refl)

    -- it is not: COUNT at line 2, the line after the last
    second_absent : past 1 text ≡ [] → Alike 2
    unfolding had_line past formed closed
    second_absent e = (Count 2, rw (e, header_there text header, none) refl, rw (e, none) refl)

    second_same : Alike 2
    second_same = go (past 1 text) refl
      where
        go : (rest : List ℕ) → past 1 text ≡ rest → Alike 2
        go [] e = second_absent e
        go (b ∷ bs) e = second_there (is_header text 2) refl (ap (λ (rest : List ℕ). not (empty rest)) e)

  -- ---- the whole text

  lines_same : (n : ℕ) → 2 ≤ n → till (had_line before08 text) n ≡ till (had_line before04 text) n
  lines_same n two = by_tasks (eqb (length (file_tasks text)) 0) refl
    where
      by_first : eqb (length (file_tasks text)) 0 ≡ true → (o : Outcome) → had_line before08 text 1 ≡ o → till (had_line before08 text) n ≡ till (had_line before04 text) n
      by_first none (Err r) e =
          till_first (had_line before08 text) (had_line before04 text) 0 n r (till_none (had_line before08 text)) (till_none (had_line before04 text)) e (sym first_same ∙ e) (omega arith)
      by_first none (Ok _) e =
          let second = second_same none (clear_header text (clear_now text unruled uncached uninterrupted e)) in
          till_first (had_line before08 text) (had_line before04 text) 1 n second.0
          (till_one (had_line before08 text) e)
          (till_one (had_line before04 text) (sym first_same ∙ e))
          second.1
          second.2
          (omega arith)

      by_tasks : (b : Bool) → eqb (length (file_tasks text)) 0 ≡ b → till (had_line before08 text) n ≡ till (had_line before04 text) n
      by_tasks false some = till_same (had_line before08 text) (had_line before04 text) n (λ j lt. rows_same j (count_some j some))
      by_tasks true none = by_first none (had_line before08 text 1) refl

  set_same : had_set before08 text ≡ had_set before04 text
  unfolding had_set masked_at header_at
  set_same = rw (without 2 (omega arith)) refl

  pub read_same : read_of text ≡ had_read before04 text
  unfolding had_set set_of interrupts_with header_at
  read_same =
      read_by before04 text (lines_now text unruled uncached uninterrupted (length text + 2) ∙ lines_same (length text + 2) (omega arith))
      (set_now text unruled uncached uninterrupted ∙ set_same) refl refl
