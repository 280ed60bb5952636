-- A file's set has all its places; of an accepted file the planner makes the plan of the set, the tool prints its text, and the
-- questions are asked of both.
-- Assumes nothing.
use Rattle.std.specs.Prelude.{Err, Ok}
use Prim.Native.Nat.{ℕ, ◌-◌, ◌≤◌}
use mathlib.Core.Path.{◌≡◌, refl, sym, ap, ◌∙◌}
use mathlib.Core.List.{List, []}
use mathlib.Core.Bool.{true}
use native.Mathlib.Omega.{arith}
use lib.ListN.{length, replicate, length-append, length-replicate}
use Rattle.refusals.specs.declared.Refusal.{Refusal}
use Rattle.refusals.specs.declared.Refusal.TheVariants.{Alone}
use Rattle.refusals.proofs.FirstLaws.{done_refused}
use Rattle.refusals.specs.Refused.{Outcome}
use Rattle.tasks.specs.declared.set.Header.{Header}
use Rattle.tasks.specs.declared.set.Interrupt.{Interrupt}
use Rattle.tasks.specs.declared.set.Task.{Task}
use Rattle.tasks.specs.declared.set.TaskSet.{TaskSet}
use Rattle.tasks.specs.Set.{most_tasks, interrupts_in, zero_task, interrupts_with, set_of}
use Rattle.tasks.proofs.SetLaws.{interrupts_set}
use Rattle.taskfile.specs.File.{file_header, file_tasks, file_interrupts}
use Rattle.taskread.specs.Read.{file_set, answer, read_outcome, read_of}
use Rattle.tasks_claims.proofs.Accepted.{read_accepted}
use Rattle.tasks_claims.proofs.Claims.{read_refuses}
use Rattle.plan_claims.proofs.Claims.{never_alone}
use Rattle.ring.specs.declared.clock.Tick.{Tick}
use Rattle.planner.specs.Planner.{plan_of}
use Rattle.plancheck.specs.Makes.{makes}
use Rattle.whoruns.specs.WhoRuns.{refused_who, who_runs}
use Rattle.doespass.specs.DoesPass.{refused_pass, does_pass}
use Rattle.plantext.specs.Text.{plan_text}
use Rattle.planlines.specs.Line.{refusal_text}
use Rattle.taskplan.specs.declared.FileAnswer.{FileAnswer}
use Rattle.taskplan.specs.File.{unless, refused_file, planned_set, filed_of}
use Rattle.planfile.specs.Tool.{answered}
use Rattle.askfile.specs.OfFile.{who_in, pass_in}
use Rattle.taskplan.proofs.FileLaws.{filed_makes}
use Rattle.filed_claims.specs.Claims.{FileAccepted, set_in, plan_in, FileFull}

-- a set has all its places
abbrev Whole : TaskSet → Type 0
Whole set = length set.tasks ≡ most_tasks

-- that of no more tasks than there is room for
made_whole : (header : Header) (ts : List Task) (is : List Interrupt) → length ts ≤ most_tasks → Whole (set_of header ts is)
unfolding set_of
made_whole header ts is few =
    length-append ts (replicate (most_tasks - length ts) zero_task) ∙ omega (arith, length-replicate (most_tasks - length ts) zero_task, few)

-- that of an answer, where a read that is done has few tasks
answer_whole : (o : Outcome) (header : Header) (ts : List Task) (is : List Interrupt) → ((answer o (set_of header ts is)).outcome ≡ Ok tt → length ts ≤ most_tasks) →
    Whole (answer o (set_of header ts is)).set
answer_whole (Ok _) header ts is few = made_whole header ts is (few refl)
answer_whole (Err r) header ts is few = length-replicate most_tasks zero_task

-- what reading answers, and how many interrupts a file's set counts
answer_outcome : (o : Outcome) (set : TaskSet) → (answer o set).outcome ≡ o
answer_outcome (Ok _) set = refl
answer_outcome (Err r) set = refl

read_outcome_lem : (text : List ℕ) → (read_of text).outcome ≡ read_outcome text
unfolding read_of
read_outcome_lem text = answer_outcome (read_outcome text) (file_set text)

read_count : (text : List ℕ) → (file_set text).interrupts.count ≡ length (file_interrupts text)
unfolding file_set set_of interrupts_with
read_count text = refl

-- that of what is read
read_whole : (text : List ℕ) → Whole (read_of text).set
unfolding read_of file_set
read_whole text = answer_whole (read_outcome text) (file_header text) (file_tasks text) (file_interrupts text) (λ e. (read_accepted text e).most)

handed_whole : (o : Outcome) (file : FileAnswer) → Whole file.set → Whole (unless refused_file o file).set
handed_whole (Ok _) file w = w
handed_whole (Err r) file w = length-replicate most_tasks zero_task

planned_whole : (set : TaskSet) → Whole set → Whole (planned_set set).set
unfolding planned_set
planned_whole set w = handed_whole (plan_of set).outcome (record { outcome = Ok tt; set = set; plan = (plan_of set).plan }) w

-- that of a file
pub filed_full : FileFull
unfolding filed_of
filed_full text = handed_whole (read_of text).outcome (planned_set (read_of text).set) (planned_whole (read_of text).set (read_whole text))

-- ---- the set that was read

-- where a plan is given of a set that was read, it is the file's
planned_own : (o : Outcome) (file : FileAnswer) → (unless refused_file o file).outcome ≡ Ok tt → unless refused_file o file ≡ file
planned_own (Ok _) file e = refl
planned_own (Err r) file e = done_refused (sym e)

file_own : (text : List ℕ) (o : Outcome) →
    (unless refused_file (answer o (file_set text)).outcome (planned_set (answer o (file_set text)).set)).outcome ≡ Ok tt →
    (unless refused_file (answer o (file_set text)).outcome (planned_set (answer o (file_set text)).set)).set ≡ file_set text
unfolding planned_set
file_own text (Ok _) e =
    ap (λ (f : FileAnswer). f.set) (planned_own (plan_of (file_set text)).outcome (record { outcome = Ok tt; set = file_set text; plan = (plan_of (file_set text)).plan }) e)
file_own text (Err r) e = done_refused (sym e)

-- a refusal by row 13 is the planner's, of the set that was read
planned_refused : (o : Outcome) (file : FileAnswer) (r : Refusal) → file.outcome ≡ Ok tt → (unless refused_file o file).outcome ≡ Err r → o ≡ Err r
planned_refused (Ok _) file r d e = done_refused (sym d ∙ e)
planned_refused (Err q) file r d e = e

file_never : (text : List ℕ) (k : ℕ) (o : Outcome) → (read_of text).outcome ≡ o → file_interrupts text ≡ [] → Whole (answer o (file_set text)).set →
    (unless refused_file (answer o (file_set text)).outcome (planned_set (answer o (file_set text)).set)).outcome ≡ Err (Alone k) → ⊥
unfolding planned_set
file_never text k (Ok _) r none whole e =
    never_alone (file_set text) k whole (count_none text none)
    (planned_refused (plan_of (file_set text)).outcome (record { outcome = Ok tt; set = file_set text; plan = (plan_of (file_set text)).plan }) (Alone k) refl e)
  where
    count_none : (text : List ℕ) → file_interrupts text ≡ [] → (file_set text).interrupts.count ≡ 0
    count_none text none = read_count text ∙ ap length none
file_never text k (Err q) r none whole e = absurd (omega (arith, (read_refuses text (Alone k) (r ∙ e)).0))

-- a file without 07 lines is not refused by row 13
pub filed_never : (text : List ℕ) (k : ℕ) → file_interrupts text ≡ [] → (filed_of text).outcome ≡ Err (Alone k) → ⊥
unfolding filed_of read_of
filed_never text k none e = file_never text k (read_outcome text) (read_outcome_lem text) none (read_whole text) e

module _ (text : List ℕ) (ok : FileAccepted text) where
  -- its interrupts are those of its lines
  pub filed_interrupts : interrupts_in (set_in text) ≡ file_interrupts text
  unfolding filed_of read_of file_set
  filed_interrupts =
      ap interrupts_in (file_own text (read_outcome text) ok) ∙ interrupts_set (file_header text) (file_tasks text) (file_interrupts text)

  -- the planner makes the file's plan of its set
  pub filed_made : makes (set_in text) (plan_in text) ≡ true
  filed_made = filed_makes text refl ok

  -- the tool prints its text
  pub filed_printed : answered text ≡ plan_text (set_in text) (plan_in text)
  unfolding answered
  filed_printed = ap (λ (o : Outcome). unless refusal_text o (plan_text (set_in text) (plan_in text))) ok

  -- the questions are asked of the set and the plan
  pub filed_who : (p : ℕ) (x : Tick) → who_in text p x ≡ who_runs (set_in text) (plan_in text) p x
  unfolding who_in
  filed_who p x = ap (λ (o : Outcome). unless refused_who o (who_runs (set_in text) (plan_in text) p x)) ok

  pub filed_pass : (q R : ℕ) → pass_in text q R ≡ does_pass (set_in text) (plan_in text) q R
  unfolding pass_in
  filed_pass q R = ap (λ (o : Outcome). unless refused_pass o (does_pass (set_in text) (plan_in text) q R)) ok
