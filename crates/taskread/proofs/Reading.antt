-- The answer of a text, by how reading its lines ends.
-- Assumes nothing.
use Rattle.tasks.specs.declared.set.Header.{Header}
use Rattle.std.specs.Prelude.{Err, Ok, Result}
use Prim.Native.Nat.{ℕ, zero, suc, ◌+◌, ◌≤◌}
use native.Mathlib.Omega.{arith}
use native.Mathlib.Numerals.{add-one}
use mathlib.Core.List.{List, []}
use mathlib.Core.Path.{◌≡◌, refl, sym, ◌∙◌, ap}
use lib.ListN.{length}
use Rattle.refusals.specs.declared.Refusal.{Refusal}
use Rattle.refusals.specs.declared.Refusal.TheVariants.{Count}
use Rattle.refusals.specs.Refused.{Outcome}
use Rattle.refusals.specs.First.{till}
use Rattle.refusals.proofs.FirstLaws.{stays}
use Rattle.tasks.specs.declared.set.Interrupts.{Interrupts}
use Rattle.tasks.specs.declared.set.TaskSet.{TaskSet}
use Rattle.tasks.specs.Set.{most_interrupts, interrupts_with, set_of, set_with, zero_set}
use Rattle.tasks.proofs.SetLaws.{set_with_lem}
use Rattle.taskrows.specs.Rows.{figures_outcome}
use Rattle.taskfile.specs.File.{past, line_outcome, header_at, file_header, tasks_among, interrupts_among, file_tasks, file_interrupts}
use Rattle.taskfile.proofs.AmongLaws.{among_all, all_interrupts}
use Rattle.taskfile.proofs.Lines.{refused_within, no_task, clear_there, clear_past}
use Rattle.lineanswer.specs.Answer.{line_or, of_line}
use Rattle.lineanswer.proofs.Answers.{of_line_lem, line_refused}
use Rattle.tasklines.specs.declared.TaskLines.{TaskLines}
use Rattle.tasklines.specs.Ended as tasks
use Rattle.interruptlines.specs.declared.InterruptLines.{InterruptLines}
use Rattle.interruptlines.specs.Ended.{Ended}
use Rattle.taskread.specs.Read.{read_of, read_outcome, file_set, answer}

-- ---- the answer of a text

-- whose first lines are clear and whose next is refused
pub reads_refused : (text : List ℕ) (n : ℕ) (r : Refusal) → till (line_outcome text) n ≡ Ok tt → line_outcome text (suc n) ≡ Err r → read_of text ≡ record { outcome = Err r; set = zero_set }
unfolding read_of read_outcome
reads_refused text n r clear e =
    rw (stays (line_outcome text) n (length text + 2) r clear e (refused_within text n r e))

-- whose lines are all clear: rows 5 and 6 answer
pub reads_clear : (text : List ℕ) → till (line_outcome text) (length text + 2) ≡ Ok tt → read_of text ≡ answer (figures_outcome (file_set text)) (file_set text)
unfolding read_of read_outcome
reads_clear text clear = rw clear

-- where the first lines are clear and the next is not, that line answers
pub reads_line : (text : List ℕ) (n : ℕ) (set : TaskSet) → till (line_outcome text) n ≡ Ok tt → (line_outcome text (suc n) ≡ Ok tt → ⊥) → answer (line_outcome text (suc n)) set ≡ read_of text
reads_line text n set clear refused = go (line_outcome text (suc n)) refl
  where
    go : (o : Outcome) → line_outcome text (suc n) ≡ o → answer o set ≡ read_of text
    go (Ok _) e = absurd (refused e)
    go (Err r) e = sym (reads_refused text n r clear e)

-- as a refusal of the line behind those that are clear
pub reads_next : (text : List ℕ) (n : ℕ) (set : TaskSet) {o : Outcome} {why : Refusal} → o ≡ Err why → till (line_outcome text) n ≡ Ok tt → line_outcome text (n + 1) ≡ Err why → answer o set ≡ read_of text
reads_next text n set {why = why} e clear next =
    ap (λ (o : Outcome). answer o set) e ∙ sym (reads_refused text n why clear (ap (line_outcome text) (sym (add-one n)) ∙ next))

-- ---- a line is refused

-- a first line that is refused answers for the text
pub first_refused : (text : List ℕ) {line : Result Header Refusal} {o : Outcome} (r : Refusal) (set : TaskSet) → line ≡ line_or (line_outcome text 1) (header_at text) → line ≡ Err r → o ≡ of_line line → answer o set ≡ read_of text
unfolding till
first_refused text r set said refused told =
    ap (λ (o : Outcome). answer o set) (told ∙ ap of_line said ∙ of_line_lem (line_outcome text 1) (header_at text))
    ∙ reads_line text 0 set refl (line_refused (line_outcome text 1) (header_at text) r (sym said ∙ refused))

-- and so does one among the tasks
pub later_refused : {text : List ℕ} {listed : TaskLines} → tasks.Ended text listed → (why : Refusal) → listed.outcome ≡ Err why → answer listed.outcome listed.set ≡ read_of text
later_refused {text = text} {listed = listed} ended why e = reads_next text listed.lines listed.set e ended.tasked.taken.clear (ended.refused why e)

-- ---- no line is left

-- where the text ends behind clear lines, with no task that is COUNT at the next line
reads_count : (text : List ℕ) (k : ℕ) → 1 ≤ k → past k text ≡ [] → till (line_outcome text) k ≡ Ok tt → length (file_tasks text) ≡ 0 → read_of text ≡ record { outcome = Err (Count (k + 1)); set = zero_set }
reads_count text zero some end clear none = absurd (omega arith)
reads_count text (suc n) some end clear none =
    rw (add-one (suc n)) (reads_refused text (suc n) (Count (suc (suc n))) clear (no_task text n (clear_there text n none clear) end none))

-- with a task rows 5 and 6 answer
reads_figures : (text : List ℕ) (k : ℕ) → 1 ≤ k → past k text ≡ [] → till (line_outcome text) k ≡ Ok tt → 1 ≤ length (file_tasks text) → read_of text ≡ answer (figures_outcome (file_set text)) (file_set text)
reads_figures text zero some end clear any = absurd (omega arith)
reads_figures text (suc n) some end clear any = reads_clear text (clear_past text n (length text + 2) end any clear)

-- ---- behind the tasks

module _ {text : List ℕ} {k : ℕ} {set : TaskSet} {rest : InterruptLines} (all : set ≡ set_of (file_header text) (tasks_among text k) []) (ended : Ended text k rest) where
  -- a line that is refused answers for the text
  pub rest_refused : (why : Refusal) → rest.outcome ≡ Err why → answer rest.outcome set ≡ read_of text
  rest_refused why e = reads_next text rest.lines set e ended.clear (ended.refused why e)

  -- what was taken has room
  pub rest_few : rest.interrupts.count ≤ most_interrupts
  unfolding interrupts_with
  rest_few = omega (arith, ap (λ (is : Interrupts). is.count) ended.interrupts, ended.few)

  module _ (done : rest.outcome ≡ Ok tt) where
    -- the set has all tasks and all interrupts of the file
    tasks_all : tasks_among text k ≡ file_tasks text
    tasks_all = sym ended.tasks ∙ among_all text rest.lines (ended.done done)

    interrupts_all : interrupts_among text rest.lines ≡ file_interrupts text
    interrupts_all = all_interrupts text rest.lines (ended.done done)

    counted : set.count ≡ length (file_tasks text)
    unfolding set_of
    counted = ap (λ (s : TaskSet). s.count) all ∙ ap length tasks_all

    -- where no task was taken, that is COUNT at the next line
    pub ended_none : set.count ≡ 0 → answer (Err (Count (rest.lines + 1))) set ≡ read_of text
    ended_none none = sym (reads_count text rest.lines ended.some (ended.done done) ended.clear (sym counted ∙ none))

    whole : set_with set rest.interrupts ≡ file_set text
    unfolding file_set
    whole =
        (λ i. set_with (all i) (ended.interrupts i))
        ∙ set_with_lem (file_header text) (tasks_among text k) [] (interrupts_among text rest.lines)
        ∙ (λ i. set_of (file_header text) (tasks_all i) (interrupts_all i))

    -- else rows 5 and 6 of the set answer
    pub ended_all : (set.count ≡ 0 → ⊥) → answer (figures_outcome (set_with set rest.interrupts)) (set_with set rest.interrupts) ≡ read_of text
    ended_all some =
        ap (λ (s : TaskSet). answer (figures_outcome s) s) whole
        ∙ sym (reads_figures text rest.lines ended.some (ended.done done) ended.clear (omega (arith, counted, some)))
