-- Which lines of a file are taken, as long as each is clear: tasks, then interrupts, to the end of the text.
-- Assumes nothing.
use Rattle.std.specs.Prelude.{Ok}
use Prim.Native.Nat.{ℕ, zero, suc, ◌+◌, ◌≤◌}
use native.Mathlib.Omega.{arith}
use mathlib.Core.List.{List, [], ◌∷◌}
use mathlib.Core.Bool.{true, false}
use mathlib.Core.Logic.{⊎_elim}
use mathlib.Core.Path.{◌≡◌, refl, ap, subst}
use lib.ListN.{length}
use Rattle.frameread.specs.Line.{formed}
use Rattle.frames.specs.declared.table.Frame.{Frame}
use Rattle.tasks.specs.Set.{most_tasks, most_interrupts}
use Rattle.taskfile.specs.File.{past, empty, line_outcome, opening_lines, task_formed, tasks_among, interrupts_among}
use Rattle.taskfile.proofs.Lines.{clear_header, clear_kind, clear_none, clear_room, clear_fewer}
use Rattle.tasks_claims.specs.Claims.{lines_to, Shaped}
use Rattle.tasks_claims.proofs.RunLaws.{run_more}
use Rattle.tasks_claims.proofs.ShapedLaws.{opening_few, lines_in, lines_opened, lines_some, shaped_none, shaped_tasks, shaped_interrupts}

-- the lines of n tasks and k interrupts are taken, and there is room for these
pub record Reached (text : List ℕ) (n k : ℕ) : Type 0 where
  pub shaped : Shaped text n k
  pub most : n ≤ most_tasks
  pub few : k ≤ most_interrupts

-- the next line is a task, where no interrupt is taken yet, or an interrupt
pub data Next (text : List ℕ) (n k : ℕ) : Type 0 where
  task : k ≡ 0 → task_formed (past (lines_to text n k) text) ≡ true → Reached text (suc n) k → Next text n k
  interrupt : formed Frame.Interrupt (past (lines_to text n k) text) ≡ true → Reached text n (suc k) → Next text n k

pub reached_next : (text : List ℕ) (n k : ℕ) → Reached text n k → empty (past (lines_to text n k) text) ≡ false → line_outcome text (suc (lines_to text n k)) ≡ Ok tt → Next text n k
reached_next text n k r there clear = ⊎_elim as_task as_interrupt (clear_kind text (lines_to text n k) (lines_opened text n k) there clear)
  where
    s : Shaped text n k
    s = r.shaped

    as_task : task_formed (past (lines_to text n k) text) ≡ true → Next text n k
    as_task here =
        let none = clear_none text (lines_to text n k) (lines_some text n k) here clear in
        let first : k ≡ 0 = omega (arith, shaped_interrupts text n k s, ap length none) in
        let room : length (tasks_among text (lines_to text n k)) ≡ most_tasks → ⊥ = clear_room text (lines_to text n k) (lines_some text n k) here clear in
        task first here
        (record {
          shaped = record {
            opened = s.opened;
            tasks = run_more task_formed text (opening_lines text) n s.tasks (subst (λ (m : ℕ). task_formed (past (lines_to text n m) text) ≡ true) first here);
            interrupts = λ j lt. absurd (omega (arith, first, lt));
          };
          most = omega (arith, r.most, room, shaped_tasks text n k s);
          few = r.few;
        })

    as_interrupt : formed Frame.Interrupt (past (lines_to text n k) text) ≡ true → Next text n k
    as_interrupt here =
        let room : length (interrupts_among text (lines_to text n k)) ≡ most_interrupts → ⊥ = clear_fewer text (lines_to text n k) (lines_some text n k) here clear in
        interrupt here
        (record {
          shaped = record { opened = s.opened; tasks = s.tasks; interrupts = run_more (formed Frame.Interrupt) text (lines_to text n 0) k s.interrupts here };
          most = r.most;
          few = omega (arith, r.few, room, shaped_interrupts text n k s);
        })

-- a text that ends behind the lines that are taken
pub record Ended (text : List ℕ) : Type 0 where
  pub tasks : ℕ
  pub interrupts : ℕ
  pub reached : Reached text tasks interrupts
  pub ended : past (lines_to text tasks interrupts) text ≡ []

-- the lines of a file, and one more
pub lines_most : (text : List ℕ) (n k : ℕ) → Reached text n k → lines_to text n k ≤ 99
lines_most text n k r = omega (arith, lines_in text n k, opening_few text, r.most, r.few)

-- a text whose first 100 lines are clear ends among them
module _ (text : List ℕ) (clear : (j : ℕ) → 1 ≤ j → j ≤ 100 → line_outcome text j ≡ Ok tt) where
  step : (n k : ℕ) → Reached text n k → ((m l : ℕ) → Reached text m l → m + l ≡ suc (n + k) → Ended text) → (rest : List ℕ) → past (lines_to text n k) text ≡ rest → Ended text
  step n k r more [] e = record { tasks = n; interrupts = k; reached = r; ended = e }
  step n k r more (b ∷ bs) e = by_kind (reached_next text n k r (ap empty e) (clear (suc (lines_to text n k)) (omega arith) (omega (arith, lines_most text n k r))))
    where
      by_kind : Next text n k → Ended text
      by_kind (task none here next) = more (suc n) k next (omega arith)
      by_kind (interrupt here next) = more n (suc k) next (omega arith)

  going : (fuel n k : ℕ) → most_tasks + most_interrupts ≤ n + k + fuel → Reached text n k → Ended text
  going zero n k enough r = step n k r (λ m l next e. absurd (omega (arith, enough, e, next.most, next.few))) (past (lines_to text n k) text) refl
  going (suc fuel) n k enough r = step n k r (λ m l next e. going fuel m l (omega (arith, enough, e)) next) (past (lines_to text n k) text) refl

  pub ends : Ended text
  ends =
      let opened = clear_header text (clear 1 (omega arith) (omega arith)) in
      going (most_tasks + most_interrupts) 0 0 (omega arith) (record { shaped = shaped_none text opened; most = omega arith; few = omega arith })
