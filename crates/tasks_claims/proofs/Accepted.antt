-- An accepted file is a header, a 05 line or none, a 06 line or none, 1 to 64 tasks and up to 32 interrupts, and nothing after them.
use Rattle.std.specs.Prelude.{Ok}
use Prim.Native.Nat.{ℕ, zero, suc, ◌≤◌}
use native.Mathlib.Omega.{arith}
use mathlib.Core.List.{List, []}
use mathlib.Core.Bool.{false}
use mathlib.Core.Path.{◌≡◌, sym, ◌∙◌, ap, subst₂}
use lib.ListN.{length, drop, length-drop}
use Rattle.refusals.specs.Refused.{Outcome}
use Rattle.tasks.specs.declared.set.TaskSet.{TaskSet}
use Rattle.tasks.specs.Set.{set_of, interrupts_with, members, interrupts_in}
use Rattle.taskfile.specs.File.{past, empty, file_tasks, file_interrupts, file_header, line_outcome}
use Rattle.taskread.specs.Read.{read_of, file_set, answer}
use Rattle.tasks_claims.specs.Claims.{lines_to, size_of, Shaped, tasks_in, AllClear, AcceptedFile, ReadAccepted}
use Rattle.refusals.proofs.FirstLaws.{done_refused, done_till}
use Rattle.taskfile.proofs.Lines.{clear_there, no_task}
use Rattle.tasks_claims.proofs.ShapedLaws.{lines_some, past_shaped, shaped_all}
use Rattle.tasks_claims.proofs.ReachedLaws.{Reached, Ended, ends}
use Rattle.tasks.proofs.SetLaws.{members_set, interrupts_set}
use Rattle.tasks_claims.proofs.Exactly.{read_done, read_outcome_lem, all_clear}

-- the answer of an accepted read holds the file's set
accepted_set : (text : List ℕ) → (read_of text).outcome ≡ Ok tt → (read_of text).set ≡ file_set text
unfolding read_of
accepted_set text e = ap (λ (o : Outcome). (answer o (file_set text)).set) (sym (read_outcome_lem text) ∙ e)

-- a text that ends behind clear lines has a task
some_task : (text : List ℕ) (k : ℕ) → AllClear text → 1 ≤ k → past k text ≡ [] → tasks_in text ≡ 0 → ⊥
some_task text zero clear one end none = omega arith
some_task text (suc k) clear one end none =
    let there : empty (past k text) ≡ false = clear_there text k none (done_till (line_outcome text) (suc k) (λ j lt. clear (suc j) (omega arith))) in
    done_refused (sym (clear (suc (suc k)) (omega arith)) ∙ no_task text k there end none)

accepted : (text : List ℕ) (n k : ℕ) → AllClear text → Reached text n k → past (lines_to text n k) text ≡ [] → (read_of text).set ≡ file_set text → AcceptedFile text
unfolding file_set set_of interrupts_with
accepted text n k clear r end holds =
    let all = shaped_all text n k r.shaped end in
    let there = past_shaped text n k r.shaped in
    let over : length (drop (size_of text n k) text) ≡ 0 = ap length (sym there.0 ∙ end) in
    record {
      any = omega (arith, some_task text (lines_to text n k) clear (lines_some text n k) end);
      most = omega (arith, r.most, all.0);
      few = omega (arith, r.few, all.1);
      shaped = subst₂ (λ (n k : ℕ). Shaped text n k) (sym all.0) (sym all.1) r.shaped;
      bytes = subst₂ (λ (n k : ℕ). length text ≡ size_of text n k) (sym all.0) (sym all.1) (omega (arith, there.1, over, length-drop (size_of text n k) text));
      ended = subst₂ (λ (n k : ℕ). past (lines_to text n k) text ≡ []) (sym all.0) (sym all.1) end;
      header = ap (λ (s : TaskSet). s.header) holds;
      count = ap (λ (s : TaskSet). s.count) holds;
      tasks = ap members holds ∙ members_set (file_header text) (file_tasks text) (file_interrupts text);
      counted = ap (λ (s : TaskSet). s.interrupts.count) holds;
      interrupts = ap interrupts_in holds ∙ interrupts_set (file_header text) (file_tasks text) (file_interrupts text);
    }

pub read_accepted : ReadAccepted
read_accepted text e =
    let clear : AllClear text = all_clear text (read_done text e).0 in
    let found : Ended text = ends text (λ j one le. clear j one) in
    accepted text found.tasks found.interrupts clear found.reached found.ended (accepted_set text e)
