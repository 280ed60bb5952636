-- The 05 line and the 06 line of an accepted file: the set remembers them, and no other line is one. And where a file without a task is
-- refused.
-- Assumes nothing.
use Rattle.std.specs.Prelude.{Err, None, Ok, Option, Some}
use Prim.Native.Nat.{ℕ, zero, suc, pred, ◌≤◌}
use native.Mathlib.Omega.{arith}
use mathlib.Core.List.{List, []}
use mathlib.Core.Bool.{Bool, true, false}
use mathlib.Core.Logic.{◌⊎◌, inl, inr}
use mathlib.Core.Path.{◌≡◌, refl, sym, ◌∙◌, ap, subst}
use lib.ListN.{length}
use lib.Dec.{eqb}
use borrow.Author.Tests.{not-true, eqb-true, eq-eqb}
use Rattle.laws.proofs.Tests.{clash, true_false}
use Rattle.frameread.specs.Line.{formed, closed, field_of}
use Rattle.frames.specs.declared.table.Frame.{Frame}
use Rattle.refusals.specs.declared.Refusal.TheVariants.{Count}
use Rattle.refusals.specs.First.{till}
use Rattle.refusals.proofs.FirstLaws.{done_refused, done_till}
use Rattle.tasks.specs.declared.set.Header.{Header}
use Rattle.taskfile.specs.File.{past, empty, is_header, is_masked, is_rule, given_by, rule_line, line_outcome, opening_lines, tasks_among, file_tasks}
use Rattle.taskfile.proofs.AmongLaws.{among_all}
use Rattle.taskfile.proofs.Lines.{pred_one, rule_line_lem, rule_within, opening_lines_lem, first_kind, masked_elsewhere, rule_elsewhere, clear_there, no_task}
use Rattle.taskfile.proofs.OpeningLaws.{taken_opening, among_opening}
use Rattle.taskread.specs.declared.read.ReadAnswer.{ReadAnswer}
use Rattle.taskread.specs.Read.{read_of}
use Rattle.taskread.proofs.Reading.{reads_refused}
use Rattle.tasks_claims.specs.Claims.{Opened, AllClear, Remembered, MaskedRemembered, RuleRemembered, MaskedOnlyAtTwo, RuleOnlyThere, NoTaskPlace}
use Rattle.tasks_claims.proofs.ShapedLaws.{given_there, given_absent, file_masked, file_rule}
use Rattle.tasks_claims.proofs.Exactly.{read_done, all_clear}
use Rattle.tasks_claims.proofs.Accepted.{read_accepted}

-- what such a line gives tells whether it is there, and its figure
module _ (kind : Frame) (rest : List ℕ) where
  given_only : (x : ℕ) → given_by kind rest ≡ Some x → (formed kind rest ≡ true) × (field_of kind 0 rest ≡ x)
  given_only x g = by_kind (formed kind rest) refl
    where
      by_kind : (t : Bool) → formed kind rest ≡ t → (formed kind rest ≡ true) × (field_of kind 0 rest ≡ x)
      by_kind true e = let there = given_there kind rest e in (e, (cc))
      by_kind false e = let none = given_absent kind rest e in clash (cc)

  absent_only : given_by kind rest ≡ None → formed kind rest ≡ false
  absent_only a = by_kind (formed kind rest) refl
    where
      by_kind : (t : Bool) → formed kind rest ≡ t → t ≡ false
      by_kind true e = let there = given_there kind rest e in clash (cc)
      by_kind false e = refl

  remembered : {figure : Option ℕ} → figure ≡ given_by kind rest → Remembered kind rest figure
  remembered {figure = figure} told =
      record {
        told = told;
        given = λ x. (
          λ (g : figure ≡ Some x). given_only x (sym told ∙ g),
          λ (h : (formed kind rest ≡ true) × (field_of kind 0 rest ≡ x)). told ∙ given_there kind rest h.0 ∙ ap Some h.1,
        );
        absent = (
          λ (a : figure ≡ None). absent_only (sym told ∙ a),
          λ (h : formed kind rest ≡ false). told ∙ given_absent kind rest h,
        );
      }

pub masked_remembered : MaskedRemembered
masked_remembered text done =
    remembered Frame.Masked (past 1 text) (ap (λ (h : Header). h.masked) (read_accepted text done).header ∙ file_masked text)

pub rule_remembered : RuleRemembered
rule_remembered text done =
    remembered Frame.Rule (past (pred (rule_line text)) text) (ap (λ (h : Header). h.rule) (read_accepted text done).header ∙ file_rule text)

pub masked_only_at_two : MaskedOnlyAtTwo
unfolding past
masked_only_at_two text k done one masked = at k one masked (all_clear text (read_done text done).0)
  where
    at : (k : ℕ) → 1 ≤ k → is_masked text k ≡ true → AllClear text → k ≡ 2
    at zero one masked clear = absurd (omega arith)
    at (suc zero) one masked clear = done_refused (sym (clear 1 (omega arith)) ∙ first_kind Frame.Masked refl (omega arith) text masked)
    at (suc (suc zero)) one masked clear = refl
    at (suc (suc (suc n))) one masked clear =
        done_refused (sym (clear (suc (suc (suc n))) (omega arith)) ∙ masked_elsewhere text (suc (suc n)) (omega arith) (λ e. omega arith) masked)

-- a 06 line of a file whose lines are clear stands where it may
rule_place : (text : List ℕ) (k : ℕ) → 1 ≤ k → is_rule text k ≡ true → AllClear text → k ≡ rule_line text
unfolding past
rule_place text zero one rule clear = absurd (omega arith)
rule_place text (suc zero) one rule clear = done_refused (sym (clear 1 (omega arith)) ∙ first_kind Frame.Rule refl (omega arith) text rule)
rule_place text (suc (suc n)) one rule clear = by_test (eqb (suc (suc n)) (rule_line text)) refl
  where
    by_test : (b : Bool) → eqb (suc (suc n)) (rule_line text) ≡ b → suc (suc n) ≡ rule_line text
    by_test true e = eqb-true (suc (suc n)) (rule_line text) e
    by_test false e =
        done_refused
        (sym (clear (suc (suc n)) (omega arith))
        ∙ rule_elsewhere text (suc n) (omega arith) (λ (here : suc (suc n) ≡ rule_line text). true_false (sym (eq-eqb (suc (suc n)) (rule_line text) here) ∙ e)) rule)

pub rule_only_there : RuleOnlyThere
rule_only_there text k done one rule = by_kind (formed Frame.Masked (past 1 text)) refl
  where
    here : k ≡ rule_line text
    here = rule_place text k one rule (all_clear text (read_done text done).0)

    by_kind : (b : Bool) → formed Frame.Masked (past 1 text) ≡ b → ((k ≡ 2) × (b ≡ false)) ⊎ ((k ≡ 3) × (b ≡ true))
    by_kind true e = inr (here ∙ rule_line_lem text e, refl)
    by_kind false e = inl (here ∙ rule_line_lem text e, refl)

-- a file that ends with the lines before the tasks is COUNT at the line behind them
ends_opened : (text : List ℕ) (k : ℕ) → Opened text → opening_lines text ≡ suc k → past (suc k) text ≡ [] → (read_of text).outcome ≡ Err (Count (suc (suc k)))
ends_opened text k header lines end =
    let none : length (file_tasks text) ≡ 0 = ap length (sym (among_all text (suc k) end) ∙ ap (tasks_among text) (sym lines) ∙ among_opening text header) in
    let clear : till (line_outcome text) (suc k) ≡ (Ok tt) = ap (till (line_outcome text)) (sym lines) ∙ (taken_opening text header).clear in
    ap (λ (a : ReadAnswer). a.outcome) (reads_refused text (suc k) (Count (suc (suc k))) clear (no_task text k (clear_there text k none clear) end none))

-- nothing is no line
nothing_formed : (kind : Frame) → formed kind [] ≡ false
unfolding formed closed
nothing_formed kind = refl

-- where a 06 line might stand and the text ends, the lines before the tasks end before it
none_opening : (text : List ℕ) (k : ℕ) → rule_line text ≡ suc k → past k text ≡ [] → opening_lines text ≡ k
none_opening text k here end =
    opening_lines_lem text (ap (λ (n : ℕ). formed Frame.Rule (past (pred n) text)) here ∙ ap (formed Frame.Rule) end ∙ nothing_formed Frame.Rule)
    ∙ ap pred here

first_opened : (text : List ℕ) → is_header text 1 ≡ true → Opened text
unfolding past
first_opened text h = h

pub no_task_place : NoTaskPlace
no_task_place text =
    record {
      header = λ h end. ends_opened text 0 (first_opened text h) (none_opening text 1 (rule_line_lem text (ap (formed Frame.Masked) end ∙ nothing_formed Frame.Masked)) end) end;
      masked = λ h m end. ends_opened text 1 (first_opened text h) (none_opening text 2 (rule_line_lem text m) end) end;
      rule = λ h r end. subst (λ (n : ℕ). opening_lines text ≡ n → past n text ≡ [] → (read_of text).outcome ≡ Err (Count (suc n))) (pred_one (rule_line text) (omega (arith, rule_within text))) (ends_opened text (pred (rule_line text)) (first_opened text h)) (opening_lines_lem text r) end;
      last = λ k clear there end none. ap (λ (a : ReadAnswer). a.outcome) (reads_refused text (suc k) (Count (suc (suc k))) (done_till (line_outcome text) (suc k) (λ j lt. clear (suc j) (omega arith) (omega arith))) (no_task text k (not-true (empty (past k text)) there) end none));
    }
