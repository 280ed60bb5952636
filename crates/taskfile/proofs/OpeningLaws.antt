-- The lines of a task file before its tasks: where they end, that they are clear and hold no task and no interrupt.
-- Assumes nothing.
use Rattle.std.specs.Prelude.{Ok}
use Prim.Native.Nat.{ℕ, suc, pred, ◌+◌, ◌≤◌}
use native.Mathlib.Omega.{arith}
use native.Mathlib.Nat.{zero-add, add-zero}
use mathlib.Core.List.{List, []}
use mathlib.Core.Bool.{Bool, true, false, cond}
use mathlib.Core.Path.{◌≡◌, refl, sym, ◌∙◌, ap, subst}
use lib.ListN.{length, drop}
use Rattle.frameread.specs.Line.{formed}
use Rattle.frameread.proofs.KindLaws.{not_formed}
use Rattle.frames.specs.Table.{length_of}
use Rattle.frames.specs.declared.table.Frame.{Frame}
use Rattle.refusals.specs.First.{till}
use Rattle.refusals.proofs.FirstLaws.{till_suc}
use Rattle.taskfile.specs.File.{past, line_outcome, bytes_by, rule_line, opening_lines, opening_bytes, task_formed, task_at, interrupt_at, tasks_among, interrupts_among}
use Rattle.taskfile.specs.Taken.{Taken}
use Rattle.taskfile.proofs.Past.{past_formed}
use Rattle.taskfile.proofs.TaskLaws.{no_task_line}
use Rattle.taskfile.proofs.AmongLaws.{among_none, among_other}
use Rattle.taskfile.proofs.Lines.{HoldsNone, first_header, second_masked, rule_clear, rule_within, pred_one, opening_near, masked_lines, rule_lines}

-- k lines are clear and hold no task and no interrupt, and the rest of the text starts at the cursor
pub record Passed (text : List ℕ) (k at : ℕ) : Type 0 where
  pub within : at ≤ length text
  pub rest : past k text ≡ drop at text
  pub clear : till (line_outcome text) k ≡ Ok tt
  pub tasks : tasks_among text k ≡ []
  pub interrupts : interrupts_among text k ≡ []

passed_none : (text : List ℕ) → Passed text 0 0
unfolding past till
passed_none text =
    record {
      within = omega arith;
      rest = refl;
      clear = refl;
      tasks = among_none task_formed task_at text;
      interrupts = among_none (formed Frame.Interrupt) interrupt_at text;
    }

module _ (kind : Frame) (none : HoldsNone kind) {text : List ℕ} {k at : ℕ} (passed : Passed text k at) where
  -- a clear line more of a kind that holds none
  passed_line : formed kind (past k text) ≡ true → line_outcome text (suc k) ≡ Ok tt → Passed text (suc k) (at + (length_of kind + 1))
  passed_line f clear =
      let behind = past_formed kind text k at passed.rest passed.within (ap (formed kind) (sym passed.rest) ∙ f) in
      record {
        within = behind.1;
        rest = behind.0;
        clear = till_suc (line_outcome text) k ∙ rw passed.clear clear;
        tasks = among_other task_formed task_at text k (no_task_line kind none.0 none.1 (past k text) f) ∙ passed.tasks;
        interrupts = among_other (formed Frame.Interrupt) interrupt_at text k (not_formed kind Frame.Interrupt none.2 (past k text) f) ∙ passed.interrupts;
      }

  -- or none, where it is of another
  passed_optional : (formed kind (past k text) ≡ true → line_outcome text (suc k) ≡ Ok tt) → Passed text (cond (formed kind (past k text)) (suc k) k) (at + bytes_by kind (past k text))
  passed_optional clear = by_kind (formed kind (past k text)) refl
    where
      by_kind : (b : Bool) → formed kind (past k text) ≡ b → Passed text (cond b (suc k) k) (at + cond b (length_of kind + 1) 0)
      by_kind true e = passed_line e (clear e)
      by_kind false e = rw (add-zero at) passed

module _ (text : List ℕ) (header : formed Frame.Header text ≡ true) where
  passed_header : Passed text 1 (length_of Frame.Header + 1)
  unfolding past
  passed_header = rw (zero-add (length_of Frame.Header + 1)) at (passed_line Frame.Header (refl, refl, refl) (passed_none text) header (first_header text header))

  -- line 2 starts behind line 1
  pub past_header : past 1 text ≡ drop (length_of Frame.Header + 1) text
  past_header = passed_header.rest

  pub within_header : length_of Frame.Header + 1 ≤ length text
  within_header = passed_header.within

  -- the line at which a 06 line may stand starts behind line 1 and the 05 line, where there is one
  pub passed_masked : Passed text (pred (rule_line text)) (length_of Frame.Header + 1 + bytes_by Frame.Masked (past 1 text))
  passed_masked =
      subst (λ (k : ℕ). Passed text k (length_of Frame.Header + 1 + bytes_by Frame.Masked (past 1 text))) (masked_lines text)
      (passed_optional Frame.Masked (refl, refl, refl) passed_header (second_masked text))

  passed_opening : Passed text (opening_lines text) (opening_bytes text)
  unfolding opening_bytes
  passed_opening =
      subst (λ (k : ℕ). Passed text k (opening_bytes text)) (rule_lines text)
      (passed_optional Frame.Rule (refl, refl, refl) passed_masked (rule_clear text (pred (rule_line text)) (pred_one (rule_line text) (omega (arith, rule_within text)))))

  pub taken_opening : Taken text (opening_lines text) (opening_bytes text)
  taken_opening =
      record {
        opened = omega arith;
        within = passed_opening.within;
        rest = passed_opening.rest;
        clear = passed_opening.clear;
        lines = omega (arith, rule_within text, opening_near text);
        few = omega (arith, ap length passed_opening.tasks);
        fewer = omega (arith, ap length passed_opening.interrupts);
      }

  pub among_opening : tasks_among text (opening_lines text) ≡ []
  among_opening = passed_opening.tasks

  pub none_opening : interrupts_among text (opening_lines text) ≡ []
  none_opening = passed_opening.interrupts
