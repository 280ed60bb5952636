-- A file's set and plan, step by step: where it is refused, and that the planner makes the plan that its servers are laid out to.
-- Assumes nothing.
use Rattle.std.specs.Prelude.{Err, Ok, Result}
use Prim.Native.Nat.{ℕ}
use mathlib.Core.Path.{◌≡◌, refl, sym, ap, ◌∙◌}
use mathlib.Core.List.{List}
use mathlib.Core.Bool.{true}
use Rattle.laws.proofs.Tests.{clash}
use Rattle.refusals.specs.declared.Refusal.{Refusal}
use Rattle.refusals.specs.Refused.{Outcome}
use Rattle.tasks.specs.declared.set.TaskSet.{TaskSet}
use Rattle.taskread.specs.declared.read.ReadAnswer.{ReadAnswer}
use Rattle.taskread.specs.Read.{read_of}
use Rattle.rows.specs.Rows.{horizon_of}
use Rattle.sizing.specs.Reserve.{servers_of}
use Rattle.setfigures.specs.Figures.{set_figures}
use Rattle.setfigures.specs.Board.{set_board}
use Rattle.plan.specs.declared.plan.Plan.{Plan}
use Rattle.layout.specs.Made.{plan_made}
use Rattle.planner.specs.Planner.{Clear, plan_outcome}
use Rattle.planner.proofs.Made.{plan_outcome_lem, plan_is}
use Rattle.plancheck.specs.Makes.{makes}
use Rattle.planagree.proofs.AgreeLaws.{agree_self}
use Rattle.settling.specs.declared.Settled.{Settled}
use Rattle.settling.specs.Settled.{set_rows, Cleared, settled_of, settled_by}
use Rattle.settling.proofs.RowsLaws.{rows_clear}
use Rattle.settling.proofs.SettledLaws.{settled_rows, settled_outcome, settled_servers}
use Rattle.taskplan.specs.declared.FileAnswer.{FileAnswer}
use Rattle.taskplan.specs.File.{unless, refused_file, planned_set, filed_of}
use Rattle.filerows.specs.Read.{read_rows}

-- the planner makes a set's own plan
pub set_makes : (set : TaskSet) {plan : Plan} → plan_outcome set ≡ Ok tt → plan ≡ plan_made set → makes set plan ≡ true
unfolding makes
set_makes set done laid = rw (done, laid) (agree_self set.count (plan_made set))

-- a set with its plan, or its refusal
planned_done : (set : TaskSet) {plan : Plan} → plan_outcome set ≡ Ok tt → plan ≡ plan_made set → record { outcome = Ok tt; set = set; plan = plan } ≡ planned_set set
unfolding planned_set
planned_done set done laid = rw (plan_outcome_lem set, plan_is set done, done, laid)

planned_refused : (set : TaskSet) {r : Refusal} → plan_outcome set ≡ Err r → refused_file r ≡ planned_set set
unfolding planned_set
planned_refused set e = rw (plan_outcome_lem set, e)

-- ---- by the outcome of reading

abbrev rows_by : Outcome → TaskSet → Result ℕ Refusal
rows_by o set = unless Err o (set_rows set)

by_clear : (o : Outcome) (set : TaskSet) (H : ℕ) → rows_by o set ≡ Ok H → Clear set × (H ≡ horizon_of set)
by_clear (Ok _) set H e = rows_clear set e
by_clear (Err r) set H e = clash (cc)

same_refusal : {q r : Refusal} → ◌≡◌ {A = Outcome} (Err q) (Err r) → refused_file r ≡ refused_file q
same_refusal e = cc

not_done : {A : Type 0} {r : Refusal} → ◌≡◌ {A = Outcome} (Err r) (Ok tt) → A
not_done e = clash (cc)

by_refused : (o : Outcome) (set : TaskSet) {s : Settled} {r : Refusal} → s ≡ settled_by (rows_by o set) set → s.outcome ≡ Err r →
    refused_file r ≡ unless refused_file o (planned_set set)
by_refused (Ok _) set e d = planned_refused set (sym (settled_outcome set (settled_rows set refl e)) ∙ d)
by_refused (Err q) set e d = same_refusal (sym (ap (λ (t : Settled). t.outcome) e) ∙ d)

by_done : (o : Outcome) (set : TaskSet) {s : Settled} → s ≡ settled_by (rows_by o set) set → s.outcome ≡ Ok tt → (o ≡ Ok tt) × (s ≡ settled_of set)
by_done (Ok _) set e d = (refl, settled_rows set refl e)
by_done (Err q) set e d = not_done (sym (ap (λ (t : Settled). t.outcome) e) ∙ d)

-- ---- a file that was read, and what the rows say of it

module _ (a : ReadAnswer) {rows : Result ℕ Refusal} (said : rows ≡ read_rows a) where
  -- they say it of its set
  pub read_cleared : Cleared rows a.set
  unfolding read_rows
  read_cleared = record { told = λ H e. by_clear a.outcome a.set H (sym said ∙ e) }

  module _ (text : List ℕ) (read : a ≡ read_of text) {s : Settled} (made : s ≡ settled_by rows a.set) where
    known : unless refused_file a.outcome (planned_set a.set) ≡ filed_of text
    unfolding filed_of
    known = ap (λ (b : ReadAnswer). unless refused_file b.outcome (planned_set b.set)) read

    settled : s ≡ settled_by (rows_by a.outcome a.set) a.set
    unfolding read_rows
    settled = made ∙ ap (λ (t : Result ℕ Refusal). settled_by t a.set) said

    -- refused: the file is
    file_refused : {r : Refusal} → s.outcome ≡ Err r → refused_file r ≡ filed_of text
    file_refused d = by_refused a.outcome a.set settled d ∙ known

    module _ (done : s.outcome ≡ Ok tt) where
      own : s ≡ settled_of a.set
      own = (by_done a.outcome a.set settled done).1

      -- done: no row holds of the set
      file_clear : plan_outcome a.set ≡ Ok tt
      file_clear = sym (settled_outcome a.set own) ∙ done

      -- and the servers are the set's
      file_servers : s.servers ≡ servers_of (set_board a.set) (set_figures a.set)
      file_servers = settled_servers a.set own done

      -- whose plan, with the set, is the file's
      file_planned : {plan : Plan} → plan ≡ plan_made a.set → record { outcome = Ok tt; set = a.set; plan = plan } ≡ filed_of text
      file_planned laid =
          planned_done a.set file_clear laid ∙ sym (ap (λ (o : Outcome). unless refused_file o (planned_set a.set)) (by_done a.outcome a.set settled done).0) ∙ known

    -- the outcome is the file's
    pub file_outcome : s.outcome ≡ (filed_of text).outcome
    file_outcome = by s.outcome refl
      where
        by : (o : Outcome) → s.outcome ≡ o → o ≡ (filed_of text).outcome
        by (Ok _) d = ap (λ (f : FileAnswer). f.outcome) (file_planned d refl)
        by (Err r) d = ap (λ (f : FileAnswer). f.outcome) (file_refused d)

-- what is known of a file, by its set and what was settled of it: its refusal; or that no row holds, the servers, and the plan
pub record OfFile (text : List ℕ) (set : TaskSet) (s : Settled) : Type 0 where
  pub refused : {r : Refusal} → s.outcome ≡ Err r → refused_file r ≡ filed_of text
  pub clear : s.outcome ≡ Ok tt → plan_outcome set ≡ Ok tt
  pub servers : s.outcome ≡ Ok tt → s.servers ≡ servers_of (set_board set) (set_figures set)
  pub planned : {plan : Plan} → s.outcome ≡ Ok tt → plan ≡ plan_made set → record { outcome = Ok tt; set = set; plan = plan } ≡ filed_of text

pub of_file : (a : ReadAnswer) {rows : Result ℕ Refusal} {text : List ℕ} {s : Settled} → rows ≡ read_rows a → a ≡ read_of text → s ≡ settled_by rows a.set → OfFile text a.set s
of_file a {text = text} said read made = record {
  refused = file_refused a said text read made;
  clear = file_clear a said text read made;
  servers = file_servers a said text read made;
  planned = λ done laid. file_planned a said text read made done laid;
}
