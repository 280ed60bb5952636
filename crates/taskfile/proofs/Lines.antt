-- What a line answers, by what stands there, and what the lines before it answer.
-- Assumes nothing.
use Rattle.std.specs.Prelude.{Err, Ok}
use Prim.Native.Nat.{ℕ, zero, suc, pred, ◌+◌, ◌≤◌, ◌<◌}
use native.Mathlib.Omega.{arith}
use native.Mathlib.Decide.{dec_lt}
use mathlib.Core.List.{List, [], ◌∷◌}
use mathlib.Core.Bool.{Bool, true, false, not, cond, and-false, or-false, or-true}
use mathlib.Core.Logic.{◌⊎◌, inl, inr, ⊎_elim}
use mathlib.Core.Path.{◌≡◌, refl, sym, ◌∙◌, ap, subst}
use lib.ListN.{length, get_or}
use lib.Seq.{get_or-take}
use lib.Dec.{eqb}
use borrow.Author.Tests.{eq-eqb, ne_eqb, not-false}
use Rattle.laws.proofs.Tests.{true_false, or_either, or_left, or_right}
use Rattle.frameread.specs.Line.{formed, closed}
use Rattle.frames.specs.Table.{index_of, all_frames}
use Rattle.frames.specs.declared.table.Frame.{Frame}
use Rattle.frames.proofs.Tables.{at_index}
use Rattle.refusals.specs.declared.Refusal.{Refusal}
use Rattle.refusals.specs.declared.Refusal.TheVariants.{Line, Order, Count, Twice}
use Rattle.refusals.specs.First.{first_of, when, till}
use Rattle.tasks.specs.declared.set.Interrupt.{Interrupt}
use Rattle.tasks.specs.Set.{most_tasks, most_interrupts, has_id}
use Rattle.tasks.specs.Search.{some}
use Rattle.taskfile.specs.File.{past, empty, file_kinds, admitted, line_row, order_row, count_line_row, twice_line_row, line_outcome, rule_line, opening_lines, task_formed, task_at, tasks_among, file_tasks, interrupts_among}
use Rattle.frameread.proofs.KindLaws.{not_formed}
use Rattle.tasks.proofs.Some.{some_at}
use Rattle.tasks.proofs.SearchLaws.{some_nowhere}
use Rattle.refusals.proofs.FirstLaws.{done_refused, first_done, first_none, when_done, till_done, done_till}
use Rattle.taskfile.proofs.Past.{absent_later, absent_past}
use Rattle.taskfile.proofs.TaskLaws.{task_nowhere, task_apart, no_task_line}
use Rattle.taskfile.proofs.AmongLaws.{task_counts}

-- a line of one kind that a task file admits is of no other
pub header_no_task : (text : List ℕ) → formed Frame.Header text ≡ true → task_formed text ≡ false
header_no_task text f = no_task_line Frame.Header refl refl text f

pub interrupt_no_task : (text : List ℕ) → formed Frame.Interrupt text ≡ true → task_formed text ≡ false
interrupt_no_task text f = no_task_line Frame.Interrupt refl refl text f

pub task_no_header : (text : List ℕ) → task_formed text ≡ true → formed Frame.Header text ≡ false
task_no_header text f = task_apart text f Frame.Header refl refl

pub task_no_masked : (text : List ℕ) → task_formed text ≡ true → formed Frame.Masked text ≡ false
task_no_masked text f = task_apart text f Frame.Masked refl refl

pub task_no_interrupt : (text : List ℕ) → task_formed text ≡ true → formed Frame.Interrupt text ≡ false
task_no_interrupt text f = task_apart text f Frame.Interrupt refl refl

pub task_no_rule : (text : List ℕ) → task_formed text ≡ true → formed Frame.Rule text ≡ false
task_no_rule text f = task_apart text f Frame.Rule refl refl

-- the kinds that a task file admits are the first of the table
pub kind_admitted : (kind : Frame) → index_of kind < length file_kinds → (rest : List ℕ) → formed kind rest ≡ true → admitted rest ≡ true
kind_admitted kind lt rest f = by_answer (admitted rest) refl
  where
    there : get_or file_kinds (index_of kind) Frame.Header ≡ kind
    there = get_or-take (length file_kinds) all_frames (index_of kind) Frame.Header lt ∙ at_index (λ (g : Frame). g) Frame.Header kind

    by_answer : (b : Bool) → admitted rest ≡ b → b ≡ true
    by_answer true e = refl
    by_answer false e =
        true_false (sym f ∙ ap (λ (g : Frame). formed g rest) (sym there) ∙ some_at (λ (g : Frame). formed g rest) file_kinds (index_of kind) Frame.Header e lt)

task_admitted : (rest : List ℕ) → task_formed rest ≡ true → admitted rest ≡ true
unfolding task_formed
task_admitted rest task =
    ⊎_elim
    (kind_admitted Frame.Task (omega arith) rest)
    (kind_admitted Frame.Cached (omega arith) rest)
    (or_either (formed Frame.Task rest) (formed Frame.Cached rest) task)

-- a text that starts with no kind of line, and with none of those that a task file admits
pub admits_none : (rest : List ℕ) → ((kind : Frame) → formed kind rest ≡ false) → admitted rest ≡ false
admits_none rest none = some_nowhere (λ (kind : Frame). formed kind rest) Frame.Header file_kinds (λ j lt. none _)

pub neither : (rest : List ℕ) → formed Frame.Header rest ≡ false → task_formed rest ≡ false → formed Frame.Masked rest ≡ false → formed Frame.Rule rest ≡ false → formed Frame.Interrupt rest ≡ false → admitted rest ≡ false
unfolding some task_formed
neither rest header task masked rule interrupt =
    rw (header, or_left (formed Frame.Task rest) (formed Frame.Cached rest) task, or_right (formed Frame.Task rest) (formed Frame.Cached rest) task, masked, rule, interrupt)

-- a text that starts with a line is not empty
pub formed_there : (frame : Frame) (rest : List ℕ) → formed frame rest ≡ true → empty rest ≡ false
unfolding formed closed
formed_there frame [] f = true_false (sym f)
formed_there frame (b ∷ bs) f = refl

-- ---- lines that are not there

-- behind one that is not there they are clear
pub absent_done : (text : List ℕ) (n : ℕ) → past n text ≡ [] → line_outcome text (suc (suc n)) ≡ Ok tt
unfolding line_outcome line_row order_row count_line_row twice_line_row formed closed
absent_done text n e = rw (absent_later n (suc n) text (omega arith) e, e, task_nowhere, ne_eqb (suc (suc n)) 1 (λ h. omega arith))

-- and in a file with a task also right behind the last
pub last_done : (text : List ℕ) (n : ℕ) → past (suc n) text ≡ [] → 1 ≤ length (file_tasks text) → line_outcome text (suc (suc n)) ≡ Ok tt
unfolding line_outcome line_row order_row count_line_row twice_line_row formed closed
last_done text n e any =
    let there : eqb (length (file_tasks text)) 0 ≡ false = ne_eqb (length (file_tasks text)) 0 (λ h. omega arith) in
    rw (e, there, task_nowhere, ne_eqb (suc (suc n)) 1 (λ h. omega arith)) (simp and-false)

-- with no task that is COUNT
pub no_task : (text : List ℕ) (n : ℕ) → empty (past n text) ≡ false → past (suc n) text ≡ [] → length (file_tasks text) ≡ 0 → line_outcome text (suc (suc n)) ≡ Err (Count (suc (suc n)))
unfolding line_outcome line_row order_row count_line_row twice_line_row formed closed
no_task text n there e none = rw (e, there, none, task_nowhere, ne_eqb (suc (suc n)) 1 (λ h. omega arith))

-- so a text with a task that ends behind clear lines is clear for ever
pub clear_past : (text : List ℕ) (n m : ℕ) → past (suc n) text ≡ [] → 1 ≤ length (file_tasks text) → till (line_outcome text) (suc n) ≡ Ok tt → till (line_outcome text) m ≡ Ok tt
clear_past text n m e any clear = done_till (line_outcome text) m (λ j h. line j)
  where
    beyond : (j : ℕ) → suc n ≤ j → line_outcome text (suc j) ≡ Ok tt
    beyond zero le = absurd (omega arith)
    beyond (suc i) le = last_done text i (absent_later (suc n) (suc i) text le e) any

    line : (j : ℕ) → line_outcome text (suc j) ≡ Ok tt
    line j =
        elim (dec_lt j (suc n)) [
          | yes lt ↦ till_done (line_outcome text) (suc n) clear j lt
          | no over ↦ beyond j (omega (arith, over))
        ]

-- a line that is refused is one of the file or the one behind the last
pub refused_within : (text : List ℕ) (n : ℕ) (r : Refusal) → line_outcome text (suc n) ≡ Err r → n < length text + 2
refused_within text zero r e = omega arith
refused_within text (suc m) r e =
    elim (dec_lt m (length text)) [
      | yes lt ↦ omega arith
      | no past_end ↦ done_refused (sym (absent_done text m (absent_past m text (omega (arith, past_end)))) ∙ e)
    ]

-- ---- the lines before the tasks

pub pred_one : (n : ℕ) → 1 ≤ n → suc (pred n) ≡ n
pred_one zero le = absurd (omega arith)
pred_one (suc n) le = refl

-- a 06 line may stand at line 3 where line 2 is a 05 line, else at line 2
pub rule_line_lem : (text : List ℕ) {b : Bool} → formed Frame.Masked (past 1 text) ≡ b → rule_line text ≡ cond b 3 2
unfolding rule_line
rule_line_lem text e = rw e

pub rule_within : (text : List ℕ) → (2 ≤ rule_line text) × (rule_line text ≤ 3)
unfolding rule_line
rule_within text = by_kind (formed Frame.Masked (past 1 text))
  where
    by_kind : (b : Bool) → (2 ≤ cond b 3 2) × (cond b 3 2 ≤ 3)
    by_kind true = (omega arith, omega arith)
    by_kind false = (omega arith, omega arith)

-- that line is one of those before the tasks if it is a 06 line
pub opening_lines_lem : (text : List ℕ) {b : Bool} → formed Frame.Rule (past (pred (rule_line text)) text) ≡ b → opening_lines text ≡ cond b (rule_line text) (pred (rule_line text))
unfolding opening_lines
opening_lines_lem text e = rw e

-- they end there or at the line before
pub opening_near : (text : List ℕ) → (rule_line text ≤ opening_lines text + 1) × (opening_lines text ≤ rule_line text)
unfolding opening_lines
opening_near text = by_kind (formed Frame.Rule (past (pred (rule_line text)) text))
  where
    by_kind : (b : Bool) → (rule_line text ≤ cond b (rule_line text) (pred (rule_line text)) + 1) × (cond b (rule_line text) (pred (rule_line text)) ≤ rule_line text)
    by_kind true = (omega arith, omega arith)
    by_kind false = (omega (arith, pred_one (rule_line text) (omega (arith, rule_within text))), omega (arith, pred_one (rule_line text) (omega (arith, rule_within text))))

-- each of the two lines that is there counts as one
pub masked_lines : (text : List ℕ) → cond (formed Frame.Masked (past 1 text)) 2 1 ≡ pred (rule_line text)
unfolding rule_line
masked_lines text = by_kind (formed Frame.Masked (past 1 text))
  where
    by_kind : (b : Bool) → cond b 2 1 ≡ pred (cond b 3 2)
    by_kind true = refl
    by_kind false = refl

pub rule_lines : (text : List ℕ) → cond (formed Frame.Rule (past (pred (rule_line text)) text)) (suc (pred (rule_line text))) (pred (rule_line text)) ≡ opening_lines text
unfolding opening_lines
rule_lines text =
    ap (λ (n : ℕ). cond (formed Frame.Rule (past (pred (rule_line text)) text)) n (pred (rule_line text))) (pred_one (rule_line text) (omega (arith, rule_within text)))

-- one at least
pub some_opening : (text : List ℕ) → 1 ≤ opening_lines text
some_opening text = omega (arith, rule_within text, opening_near text)

-- ---- line 1

-- that is missing
pub first_missing : line_outcome [] 1 ≡ Err (Order 1)
unfolding line_outcome line_row order_row past formed closed some
first_missing = refl

-- that is an 01 line
pub first_header : (text : List ℕ) → formed Frame.Header text ≡ true → line_outcome text 1 ≡ Ok tt
unfolding line_outcome line_row order_row count_line_row twice_line_row past some
first_header text header = rw (header, header_no_task text header, not_formed Frame.Header Frame.Interrupt refl text header, formed_there Frame.Header text header)

-- that breaks row 2 and is admitted; so is any line
order_said : (text : List ℕ) (n : ℕ) → admitted (past n text) ≡ true → order_row text (suc n) ≡ true → line_outcome text (suc n) ≡ Err (Order (suc n))
unfolding line_outcome line_row
order_said text n admits order = rw (admits, order, and-false (not (empty (past n text))))

-- that is of another kind that a task file admits
first_later : (text : List ℕ) → formed Frame.Header text ≡ false → admitted text ≡ true → line_outcome text 1 ≡ Err (Order 1)
unfolding order_row past
first_later text other admits = order_said text 0 admits (rw other refl)

pub first_kind : (kind : Frame) → eqb (index_of kind) 0 ≡ false → index_of kind < length file_kinds → (text : List ℕ) → formed kind text ≡ true → line_outcome text 1 ≡ Err (Order 1)
first_kind kind other lt text f = first_later text (not_formed kind Frame.Header other text f) (kind_admitted kind lt text f)

pub first_task_lem : (text : List ℕ) → task_formed text ≡ true → line_outcome text 1 ≡ Err (Order 1)
first_task_lem text task = first_later text (task_no_header text task) (task_admitted text task)

-- that is none of them
pub first_other : (text : List ℕ) → empty text ≡ false → admitted text ≡ false → line_outcome text 1 ≡ Err (Line 1)
unfolding line_outcome line_row past
first_other text there other = rw (there, other)

-- ---- a 05 or 06 line

-- a kind whose lines hold neither a task nor an interrupt
abbrev pub HoldsNone : Frame → Type 0
HoldsNone kind = (eqb (index_of kind) 1 ≡ false) × (eqb (index_of kind) 2 ≡ false) × (eqb (index_of kind) 5 ≡ false)

-- a line of such a kind that does not break row 2 is clear
clear_line : (kind : Frame) → index_of kind < length file_kinds → HoldsNone kind → (text : List ℕ) (n : ℕ) → formed kind (past n text) ≡ true → order_row text (suc n) ≡ false → line_outcome text (suc n) ≡ Ok tt
unfolding line_outcome line_row count_line_row twice_line_row
clear_line kind lt none text n f order =
    rw (kind_admitted kind lt (past n text) f, order, no_task_line kind none.0 none.1 (past n text) f, not_formed kind Frame.Interrupt none.2 (past n text) f, formed_there kind (past n text) f)
    (simp and-false)

-- behind line 1 it breaks row 2 elsewhere than where it may stand
order_masked : (text : List ℕ) (n : ℕ) → 1 ≤ n → formed Frame.Masked (past n text) ≡ true → order_row text (suc n) ≡ not (eqb (suc n) 2)
unfolding order_row
order_masked text n some masked =
    rw (not_formed Frame.Masked Frame.Header refl (past n text) masked, masked, not_formed Frame.Masked Frame.Rule refl (past n text) masked, no_task_line Frame.Masked refl refl (past n text) masked, ne_eqb (suc n) 1 (λ h. omega arith))
    (simp or-false)

order_rule : (text : List ℕ) (n : ℕ) → 1 ≤ n → formed Frame.Rule (past n text) ≡ true → order_row text (suc n) ≡ not (eqb (suc n) (rule_line text))
unfolding order_row
order_rule text n some rule =
    rw (not_formed Frame.Rule Frame.Header refl (past n text) rule, not_formed Frame.Rule Frame.Masked refl (past n text) rule, rule, no_task_line Frame.Rule refl refl (past n text) rule, ne_eqb (suc n) 1 (λ h. omega arith))
    (simp or-false)

-- so a 05 line at line 2 is clear, and a 06 line behind the 01 or the 05 line
pub second_masked : (text : List ℕ) → formed Frame.Masked (past 1 text) ≡ true → line_outcome text 2 ≡ Ok tt
second_masked text masked = clear_line Frame.Masked (omega arith) (refl, refl, refl) text 1 masked (order_masked text 1 (omega arith) masked)

pub rule_clear : (text : List ℕ) (n : ℕ) → suc n ≡ rule_line text → formed Frame.Rule (past n text) ≡ true → line_outcome text (suc n) ≡ Ok tt
rule_clear text n here rule =
    clear_line Frame.Rule (omega arith) (refl, refl, refl) text n rule (order_rule text n (omega (arith, here, rule_within text)) rule ∙ ap not (eq-eqb (suc n) (rule_line text) here))

-- ---- any line

-- that is there and of no kind that a task file admits
pub line_other : (text : List ℕ) (n : ℕ) → empty (past n text) ≡ false → admitted (past n text) ≡ false → line_outcome text (suc n) ≡ Err (Line (suc n))
unfolding line_outcome line_row
line_other text n there other = rw (there, other)

-- ---- a line after the first

order_header : (text : List ℕ) (n : ℕ) → 1 ≤ n → formed Frame.Header (past n text) ≡ true → order_row text (suc n) ≡ true
unfolding order_row
order_header text n some header = rw (header, ne_eqb (suc n) 1 (λ h. omega arith))

-- that is an 01 line
pub later_header : (text : List ℕ) (n : ℕ) → 1 ≤ n → formed Frame.Header (past n text) ≡ true → line_outcome text (suc n) ≡ Err (Order (suc n))
later_header text n some header = order_said text n (kind_admitted Frame.Header (omega arith) (past n text) header) (order_header text n some header)

-- that is a 05 line, elsewhere than line 2
pub masked_elsewhere : (text : List ℕ) (n : ℕ) → 1 ≤ n → (suc n ≡ 2 → ⊥) → formed Frame.Masked (past n text) ≡ true → line_outcome text (suc n) ≡ Err (Order (suc n))
masked_elsewhere text n some elsewhere masked =
    order_said text n (kind_admitted Frame.Masked (omega arith) (past n text) masked) (order_masked text n some masked ∙ ap not (ne_eqb (suc n) 2 elsewhere))

-- as it is behind the lines before the tasks
pub later_masked : (text : List ℕ) (n : ℕ) → opening_lines text ≤ n → formed Frame.Masked (past n text) ≡ true → line_outcome text (suc n) ≡ Err (Order (suc n))
later_masked text n opened masked = masked_elsewhere text n (omega (arith, some_opening text)) behind masked
  where
    behind : suc n ≡ 2 → ⊥
    behind e =
        let one : n ≡ 1 = omega arith in
        omega (arith, rule_line_lem text (subst (λ (k : ℕ). formed Frame.Masked (past k text) ≡ true) one masked), opening_near text)

-- that is a 06 line, elsewhere than behind the 01 or the 05 line
pub rule_elsewhere : (text : List ℕ) (n : ℕ) → 1 ≤ n → (suc n ≡ rule_line text → ⊥) → formed Frame.Rule (past n text) ≡ true → line_outcome text (suc n) ≡ Err (Order (suc n))
rule_elsewhere text n some elsewhere rule =
    order_said text n (kind_admitted Frame.Rule (omega arith) (past n text) rule) (order_rule text n some rule ∙ ap not (ne_eqb (suc n) (rule_line text) elsewhere))

-- as it is behind the lines before the tasks
pub later_rule : (text : List ℕ) (n : ℕ) → opening_lines text ≤ n → formed Frame.Rule (past n text) ≡ true → line_outcome text (suc n) ≡ Err (Order (suc n))
later_rule text n opened rule = rule_elsewhere text n (omega (arith, some_opening text)) behind rule
  where
    behind : suc n ≡ rule_line text → ⊥
    behind e = omega (arith, opening_lines_lem text (subst (λ (k : ℕ). formed Frame.Rule (past (pred k) text) ≡ true) e rule))

-- that is a task's line, with no 07 line before it: refused as a 65th, or as one whose id repeats, or clear
pub later_task : (text : List ℕ) (n : ℕ) → 1 ≤ n → interrupts_among text n ≡ [] → task_formed (past n text) ≡ true → line_outcome text (suc n) ≡ first_of (when (eqb (length (tasks_among text n)) most_tasks) (Count (suc n))) (when (some (has_id (task_at (past n text)).id) (tasks_among text n)) (Twice (suc n)))
unfolding line_outcome line_row order_row count_line_row twice_line_row
later_task text n after_first none task =
    let there : eqb (length (file_tasks text)) 0 ≡ false = ne_eqb (length (file_tasks text)) 0 (λ h. omega (arith, task_counts text n task)) in
    rw (task_no_header (past n text) task, task_admitted (past n text) task, task_no_masked (past n text) task, task_no_rule (past n text) task, task_no_interrupt (past n text) task, task, none, ne_eqb (suc n) 1 (λ h. omega arith), there)
    (simp (and-false, or-false))

-- that is a task's line behind an 07 line
order_late : (text : List ℕ) (n : ℕ) → 1 ≤ n → 1 ≤ length (interrupts_among text n) → task_formed (past n text) ≡ true → order_row text (suc n) ≡ true
unfolding order_row
order_late text n after_first late task =
    rw (task, ne_eqb (suc n) 1 (λ h. omega arith), ne_eqb (length (interrupts_among text n)) 0 (λ h. omega arith)) (simp or-true)

pub late_task_lem : (text : List ℕ) (n : ℕ) → 1 ≤ n → 1 ≤ length (interrupts_among text n) → task_formed (past n text) ≡ true → line_outcome text (suc n) ≡ Err (Order (suc n))
late_task_lem text n after_first late task = order_said text n (task_admitted (past n text) task) (order_late text n after_first late task)

-- that is an 07 line: refused as a 33rd, or clear
pub later_interrupt : (text : List ℕ) (n : ℕ) → 1 ≤ n → formed Frame.Interrupt (past n text) ≡ true → line_outcome text (suc n) ≡ when (eqb (length (interrupts_among text n)) most_interrupts) (Count (suc n))
unfolding line_outcome line_row order_row count_line_row twice_line_row
later_interrupt text n after_first interrupt =
    rw (not_formed Frame.Interrupt Frame.Header refl (past n text) interrupt, kind_admitted Frame.Interrupt (omega arith) (past n text) interrupt, interrupt_no_task (past n text) interrupt, not_formed Frame.Interrupt Frame.Masked refl (past n text) interrupt, not_formed Frame.Interrupt Frame.Rule refl (past n text) interrupt, interrupt, formed_there Frame.Interrupt (past n text) interrupt, ne_eqb (suc n) 1 (λ h. omega arith))
    (simp (and-false, first_none))

-- ---- a line that is clear

-- behind the lines before the tasks it is a task's or an 07 line, if it is there
pub clear_kind : (text : List ℕ) (n : ℕ) → opening_lines text ≤ n → empty (past n text) ≡ false → line_outcome text (suc n) ≡ Ok tt → (task_formed (past n text) ≡ true) ⊎ (formed Frame.Interrupt (past n text) ≡ true)
clear_kind text n opened there clear = go (formed Frame.Header (past n text)) (task_formed (past n text)) (formed Frame.Masked (past n text)) (formed Frame.Rule (past n text)) (formed Frame.Interrupt (past n text)) refl refl refl refl refl
  where
    go : (h t m r i : Bool) → formed Frame.Header (past n text) ≡ h → task_formed (past n text) ≡ t → formed Frame.Masked (past n text) ≡ m → formed Frame.Rule (past n text) ≡ r → formed Frame.Interrupt (past n text) ≡ i → (t ≡ true) ⊎ (i ≡ true)
    go h true m r i eh et em er ei = inl refl
    go h false m r true eh et em er ei = inr refl
    go true false m r false eh et em er ei = done_refused (sym clear ∙ later_header text n (omega (arith, some_opening text)) eh)
    go false false true r false eh et em er ei = done_refused (sym clear ∙ later_masked text n opened em)
    go false false false true false eh et em er ei = done_refused (sym clear ∙ later_rule text n opened er)
    go false false false false false eh et em er ei = done_refused (sym clear ∙ line_other text n there (neither (past n text) eh et em er ei))

-- it does not break row 2
order_clear : (text : List ℕ) (k : ℕ) → line_outcome text k ≡ Ok tt → order_row text k ≡ false
unfolding line_outcome
order_clear text k clear =
    let order = when (order_row text k) (Order k) in
    let later = first_of (when (count_line_row text k) (Count k)) (when (twice_line_row text k) (Twice k)) in
    when_done (order_row text k) (Order k) (first_done order later (first_done (when (line_row text k) (Line k)) (first_of order later) clear).1).0

-- before a clear line of a task there is no 07 line
pub clear_none : (text : List ℕ) (n : ℕ) → 1 ≤ n → task_formed (past n text) ≡ true → line_outcome text (suc n) ≡ Ok tt → interrupts_among text n ≡ []
clear_none text n some task clear = by_list (interrupts_among text n) refl
  where
    by_list : (is : List Interrupt) → interrupts_among text n ≡ is → is ≡ []
    by_list [] e = refl
    by_list (i ∷ is) e = done_refused (sym clear ∙ late_task_lem text n some (omega (arith, ap length e)) task)

-- line 1 is an 01 line
pub clear_header : (text : List ℕ) → line_outcome text 1 ≡ Ok tt → formed Frame.Header text ≡ true
unfolding order_row past
clear_header text clear = not-false (formed Frame.Header text) (order_clear text 1 clear)

-- in a file without a task a clear line behind one that is there is there
next_there : (text : List ℕ) (n : ℕ) → length (file_tasks text) ≡ 0 → empty (past n text) ≡ false → line_outcome text (suc (suc n)) ≡ Ok tt → empty (past (suc n) text) ≡ false
next_there text n none there clear = by_rest (past (suc n) text) refl
  where
    by_rest : (rest : List ℕ) → past (suc n) text ≡ rest → empty rest ≡ false
    by_rest [] e = done_refused (sym clear ∙ no_task text n there e none)
    by_rest (b ∷ bs) e = refl

-- and so are all clear lines
pub clear_there : (text : List ℕ) (n : ℕ) → length (file_tasks text) ≡ 0 → till (line_outcome text) (suc n) ≡ Ok tt → empty (past n text) ≡ false
unfolding past till
clear_there text zero none clear = formed_there Frame.Header text (clear_header text clear)
clear_there text (suc n) none clear =
    let parts = first_done (till (line_outcome text) (suc n)) (line_outcome text (suc (suc n))) clear in
    next_there text n none (clear_there text n none parts.0) parts.1

-- a task's line is no 65th
pub clear_room : (text : List ℕ) (n : ℕ) → 1 ≤ n → task_formed (past n text) ≡ true → line_outcome text (suc n) ≡ Ok tt → length (tasks_among text n) ≡ most_tasks → ⊥
clear_room text n some task clear full =
    let refused : line_outcome text (suc n) ≡ Err (Count (suc n)) = rw (eq-eqb (length (tasks_among text n)) most_tasks full) at (later_task text n some (clear_none text n some task clear) task) in
    done_refused (sym clear ∙ refused)

-- an 07 line is no 33rd
pub clear_fewer : (text : List ℕ) (n : ℕ) → 1 ≤ n → formed Frame.Interrupt (past n text) ≡ true → line_outcome text (suc n) ≡ Ok tt → length (interrupts_among text n) ≡ most_interrupts → ⊥
clear_fewer text n some interrupt clear full =
    let refused : line_outcome text (suc n) ≡ Err (Count (suc n)) = rw (eq-eqb (length (interrupts_among text n)) most_interrupts full) at (later_interrupt text n some interrupt) in
    done_refused (sym clear ∙ refused)
