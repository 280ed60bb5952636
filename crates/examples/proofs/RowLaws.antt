-- A file's refusal is the first of rows 1 to 9 that refuses it, or row 13, or row 10; so a file that one of rows 1 to 9 refuses prints that.
-- Assumes nothing.
use Rattle.std.specs.Prelude.{Err, Ok}
use Prim.Native.Nat.{ℕ}
use mathlib.Core.List.{List}
use mathlib.Core.Bool.{false}
use mathlib.Core.Path.{◌≡◌, refl, ◌∙◌}
use Rattle.refusals.specs.declared.Refusal.{Refusal}
use Rattle.refusals.specs.Refused.{Outcome}
use Rattle.refusals.specs.First.{first_of}
use Rattle.tasks.specs.declared.set.TaskSet.{TaskSet}
use Rattle.taskask.specs.Ask.{ask_row}
use Rattle.taskread.specs.Read.{read_of}
use Rattle.taskwrite.proofs.WriteAsks.{writer_ask}
use Rattle.tasks_claims.proofs.Claims.{written_read}
use Rattle.rows.specs.Rows.{charged_outcome}
use Rattle.planner.specs.Planner.{plan_outcome, plan_of}
use Rattle.planner.proofs.Made.{plan_outcome_lem}
use Rattle.planlines.specs.Line.{refusal_text}
use Rattle.taskplan.specs.declared.FileAnswer.{FileAnswer}
use Rattle.taskplan.specs.File.{unless, refused_file, planned_set, filed_of}
use Rattle.planfile.specs.Tool.{answered}
use Rattle.examples.specs.Asked.{rows_in, placing_rows, RowsRefuse}

-- a refusal handed on is the outcome
handed_on : (o : Outcome) (file : FileAnswer) → (unless refused_file o file).outcome ≡ first_of o file.outcome
handed_on (Ok _) file = refl
handed_on (Err r) file = refl

first_alone : (o : Outcome) → first_of o (Ok tt) ≡ o
first_alone (Ok _) = refl
first_alone (Err r) = refl

-- a set that was read: row 11 does not hold of it
planned : (set : TaskSet) → ask_row set ≡ false → (planned_set set).outcome ≡ first_of (charged_outcome set) (placing_rows set)
unfolding planned_set plan_outcome placing_rows
planned set carried = handed_on (plan_of set).outcome _ ∙ first_alone (plan_of set).outcome ∙ plan_outcome_lem set ∙ rw carried

by_reading : (text : List ℕ) (o : Outcome) → (read_of text).outcome ≡ o → first_of o (planned_set (read_of text).set).outcome ≡ first_of (first_of o (charged_outcome (read_of text).set)) (placing_rows (read_of text).set)
by_reading text (Ok _) read = planned (read_of text).set (writer_ask (read_of text).set (written_read text read).0)
by_reading text (Err r) read = refl

pub rows_refuse : RowsRefuse
unfolding filed_of
rows_refuse text = handed_on (read_of text).outcome (planned_set (read_of text).set) ∙ by_reading text (read_of text).outcome refl

pub refused_prints : (text : List ℕ) {r : Refusal} → rows_in text ≡ Err r → answered text ≡ refusal_text r
unfolding answered
refused_prints text {r} e = rw (rows_refuse text, e)
