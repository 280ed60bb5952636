-- Laws of what the lines that pass a test among the first lines of a file hold: with each line more, and past the last.
-- Assumes nothing.
use Prim.Native.Nat.{ℕ, zero, suc, ◌+◌, ◌-◌, ◌≤◌, ◌<◌}
use native.Mathlib.Omega.{arith}
use native.Mathlib.Nat.{add-zero, add-suc, le_refl, le_trans}
use mathlib.Core.List.{List, [], ◌∷◌, ◌++◌, append-nil}
use mathlib.Core.Bool.{Bool, true, false}
use mathlib.Core.Logic.{⊎_elim}
use mathlib.Core.Path.{◌≡◌, refl, sym, ◌∙◌, ap, subst}
use lib.ListN.{length, length-append}
use Rattle.laws.proofs.Orders.{le_or_lt}
use Rattle.laws.proofs.Tests.{true_false}
use Rattle.frameread.specs.Line.{formed, closed}
use Rattle.frames.specs.declared.table.Frame.{Frame}
use Rattle.taskfile.specs.File.{past, among, task_formed, task_at, file_tasks, tasks_among, interrupt_at, file_interrupts, interrupts_among}
use Rattle.taskfile.proofs.Past.{absent_later, absent_past}
use Rattle.taskfile.proofs.TaskLaws.{task_nowhere}

module _ {A : Type 0} (test : List ℕ → Bool) (figures : List ℕ → A) where
  -- no line yet, nothing
  pub among_none : (text : List ℕ) → among test figures text 0 ≡ []
  unfolding among
  among_none text = refl

  -- a line that passes adds its figures
  pub among_here : (text : List ℕ) (n : ℕ) → test (past n text) ≡ true → among test figures text (suc n) ≡ among test figures text n ++ (figures (past n text) ∷ [])
  unfolding among
  among_here text n f = rw f

  -- another adds nothing
  pub among_other : (text : List ℕ) (n : ℕ) → test (past n text) ≡ false → among test figures text (suc n) ≡ among test figures text n
  unfolding among
  among_other text n f = rw (f, append-nil)

  -- none is taken away
  pub among_more : (text : List ℕ) (n m : ℕ) → length (among test figures text n) ≤ length (among test figures text (n + m))
  unfolding among
  among_more text n zero = rw add-zero (le_refl (length (among test figures text n)))
  among_more text n (suc m) = rw (add-suc, length-append) (le_trans (among_more text n m) (omega arith))

  -- where no line is left, none passes
  module _ (none : test [] ≡ false) where
    absent_kind : (text : List ℕ) (n : ℕ) → past n text ≡ [] → test (past n text) ≡ false
    absent_kind text n e = ap test e ∙ none

    -- past the last line there are no more
    among_end : (text : List ℕ) (n m : ℕ) → past n text ≡ [] → among test figures text (n + m) ≡ among test figures text n
    among_end text n zero e = rw add-zero
    among_end text n (suc m) e =
        rw add-suc (among_other text (n + m) (absent_kind text (n + m) (absent_later n (n + m) text (omega arith) e)) ∙ among_end text n m e)

    among_later : (text : List ℕ) (n m : ℕ) → n ≤ m → past n text ≡ [] → among test figures text m ≡ among test figures text n
    among_later text n m le e =
        let k : n + (m - n) ≡ m = omega arith in
        subst (λ (k : ℕ). among test figures text k ≡ among test figures text n) k (among_end text n (m - n) e)

    -- so those of all lines are those of the file
    pub among_whole : (text : List ℕ) (n : ℕ) → past n text ≡ [] → among test figures text n ≡ among test figures text (length text)
    among_whole text n e =
        ⊎_elim
        (λ (le : n ≤ length text). sym (among_later text n (length text) le e))
        (λ (lt : length text < n). among_later text (length text) n (omega arith) (absent_past (length text) text (le_refl (length text))))
        (le_or_lt n (length text))

    -- a line that passes is one of the file's lines
    kind_within : (text : List ℕ) (n : ℕ) → test (past n text) ≡ true → n < length text
    kind_within text n f =
        ⊎_elim
        (λ (le : length text ≤ n). true_false (sym f ∙ absent_kind text n (absent_past n text le)))
        (λ (lt : n < length text). lt)
        (le_or_lt (length text) n)

    -- and counts in the whole file
    pub kind_counts : (text : List ℕ) (n : ℕ) → test (past n text) ≡ true → 1 ≤ length (among test figures text (length text))
    kind_counts text n f =
        let lt : n < length text = kind_within text n f in
        let k : suc n + (length text - suc n) ≡ length text = omega arith in
        let more : length (among test figures text (suc n)) ≤ length (among test figures text (length text)) = subst (λ (k : ℕ). length (among test figures text (suc n)) ≤ length (among test figures text k)) k (among_more text (suc n) (length text - suc n)) in
        omega (arith, more, ap length (among_here text n f) ∙ length-append (among test figures text n) (figures (past n text) ∷ []))

-- of the tasks
pub among_task : (text : List ℕ) (n : ℕ) → task_formed (past n text) ≡ true → tasks_among text (suc n) ≡ tasks_among text n ++ (task_at (past n text) ∷ [])
among_task text n f = among_here task_formed task_at text n f

pub among_all : (text : List ℕ) (n : ℕ) → past n text ≡ [] → tasks_among text n ≡ file_tasks text
among_all text n e = among_whole task_formed task_at task_nowhere text n e

pub task_counts : (text : List ℕ) (n : ℕ) → task_formed (past n text) ≡ true → 1 ≤ length (file_tasks text)
task_counts text n f = kind_counts task_formed task_at task_nowhere text n f

-- of the interrupts
pub all_interrupts : (text : List ℕ) (n : ℕ) → past n text ≡ [] → interrupts_among text n ≡ file_interrupts text
unfolding formed closed
all_interrupts text n e = among_whole (formed Frame.Interrupt) interrupt_at refl text n e
