-- The 07 lines of a file: an accepted one's set remembers them in their order; a task behind one is ORDER there, a 33rd COUNT.
-- Assumes nothing.
use Rattle.std.specs.Prelude.{Err}
use Prim.Native.Nat.{ℕ, zero, suc, ◌+◌, ◌-◌, ◌≤◌, ◌<◌}
use native.Mathlib.Omega.{arith}
use mathlib.Core.List.{List, [], ◌∷◌}
use mathlib.Core.Bool.{true}
use mathlib.Core.Path.{◌≡◌, sym, ◌∙◌, ap, subst}
use lib.ListN.{length, get_or, length-append}
use borrow.Author.Tests.{eq-eqb}
use Rattle.frameread.specs.Line.{formed}
use Rattle.frames.specs.declared.table.Frame.{Frame}
use Rattle.refusals.specs.declared.Refusal.{Refusal}
use Rattle.refusals.specs.declared.Refusal.TheVariants.{Order, Count}
use Rattle.refusals.proofs.FirstLaws.{done_till}
use Rattle.tasks.specs.declared.set.Interrupt.{Interrupt}
use Rattle.tasks.specs.Set.{most_interrupts, zero_interrupt}
use Rattle.taskfile.specs.File.{past, interrupt_at, interrupts_among, line_outcome}
use Rattle.taskfile.proofs.AmongLaws.{among_here, among_more, all_interrupts}
use Rattle.taskfile.proofs.Lines.{late_task_lem, later_interrupt}
use Rattle.taskread.specs.declared.read.ReadAnswer.{ReadAnswer}
use Rattle.taskread.specs.Read.{read_of}
use Rattle.taskread.proofs.Reading.{reads_refused}
use Rattle.tasks_claims.specs.Claims.{lines_to, tasks_in, interrupt_count, Clear, InterruptsRemembered, TaskTooLate, InterruptTooMany}
use Rattle.tasks_claims.proofs.RunLaws.{run_at}
use Rattle.tasks_claims.proofs.ShapedLaws.{tasks_first}
use Rattle.tasks_claims.proofs.Accepted.{read_accepted}

pub interrupts_remembered : InterruptsRemembered
interrupts_remembered text done =
    let taken = read_accepted text done in
    let s = taken.shaped in
    let n = tasks_in text in
    let m = interrupt_count text in
    let none : interrupts_among text (lines_to text n 0) ≡ [] = tasks_first text n m s in
    let all = sym (all_interrupts text (lines_to text n m) taken.ended) in
    record {
      told = taken.interrupts;
      line = s.interrupts;
      figures = λ k lt. ap (λ (is : List Interrupt). get_or is k zero_interrupt) (taken.interrupts ∙ all) ∙ run_at (formed Frame.Interrupt) text (lines_to text n 0) interrupt_at zero_interrupt none m k s.interrupts lt;
    }

-- a line that is refused behind clear lines answers for the text
line_answers : (text : List ℕ) (n : ℕ) (r : Refusal) → Clear text (suc n) → line_outcome text (suc n) ≡ Err r → (read_of text).outcome ≡ Err r
line_answers text n r clear e =
    ap (λ (a : ReadAnswer). a.outcome) (reads_refused text n r (done_till (line_outcome text) n (λ j lt. clear (suc j) (omega arith) (omega arith))) e)

-- an 07 line counts in all lines behind it
counts_behind : (text : List ℕ) (j n : ℕ) → j < n → formed Frame.Interrupt (past j text) ≡ true → 1 ≤ length (interrupts_among text n)
counts_behind text j n lt here =
    let split : suc j + (n - suc j) ≡ n = omega arith in
    let more = subst (λ (k : ℕ). length (interrupts_among text (suc j)) ≤ length (interrupts_among text k)) split (among_more (formed Frame.Interrupt) interrupt_at text (suc j) (n - suc j)) in
    omega (arith, more, ap length (among_here (formed Frame.Interrupt) interrupt_at text j here) ∙ length-append (interrupts_among text j) (interrupt_at (past j text) ∷ []))

pub task_too_late : TaskTooLate
task_too_late text zero k one lt clear here task = absurd (omega arith)
task_too_late text (suc j) zero one lt clear here task = absurd (omega arith)
task_too_late text (suc j) (suc n) one lt clear here task =
    line_answers text n (Order (suc n)) clear (late_task_lem text n (omega arith) (counts_behind text j n (omega arith) here) task)

pub interrupt_too_many : InterruptTooMany
interrupt_too_many text zero some clear here full = absurd (omega arith)
interrupt_too_many text (suc n) some clear here full =
    line_answers text n (Count (suc n)) clear (rw (eq-eqb (length (interrupts_among text n)) most_interrupts full) at (later_interrupt text n (omega arith) here))
