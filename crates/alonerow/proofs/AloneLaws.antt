-- Row 13: the first figures that fail alone are those of the first task that does; where it is clear each task fits alone, and without
-- interrupts it is clear. Assumes nothing.
use Prim.Native.Nat.{ℕ, zero, suc, ◌+◌, ◌/◌, ◌≤◌, ◌<◌}
use mathlib.Core.Path.{◌≡◌, refl, sym, ap, ap₂, subst, ◌∙◌}
use mathlib.Core.Bool.{Bool, true, false, not, cond}
use mathlib.Core.List.{List, [], ◌∷◌, map}
use native.Mathlib.Omega.{arith}
use borrow.Author.Tests.{not-false}
use lib.ListN.{length, take, get_or}
use lib.Seq.{take-length}
use Rattle.demand.specs.Load.{Meets, Every}
use Rattle.demand.proofs.Demand.{each_length, every_at}
use Rattle.interrupting.specs.Interrupts.{bound_numbers, bounds_of}
use Rattle.tasks.specs.declared.set.Header.{Header}
use Rattle.tasks.specs.declared.set.Task.{Task}
use Rattle.tasks.specs.declared.set.TaskSet.{TaskSet}
use Rattle.tasks.specs.Set.{members, zero_task}
use Rattle.tasks.specs.Search.{first_from, first_task}
use Rattle.tasks.proofs.FirstLaws.{first_none, none_first}
use Rattle.tasks.proofs.SearchLaws.{Passed, passed_none, passed_next, found_first, all_first}
use Rattle.loads.specs.Charge.{charged_in, Member}
use Rattle.loads.specs.Figures.{Figures, figures_of, figures_at, figures_to}
use Rattle.members.specs.Server.{Board, board_of, uninterrupted, fits, Filed}
use Rattle.members.proofs.FiledLaws.{figures_at_lem}
use Rattle.members.proofs.ServerLaws.{alone_fits}
use Rattle.setfigures.specs.Figures.{set_figures, figure_numbers}
use Rattle.setfigures.specs.Board.{set_interrupts, set_board}
use Rattle.setfigures.proofs.FigureLaws.{figures_back}
use Rattle.setfigures.proofs.BoardLaws.{board_none, board_back}
use Rattle.rows.specs.Rows.{Chargeable}
use Rattle.rows.proofs.Clears.{every_by, figures_alone, figures_meet}
use Rattle.alonerow.specs.Alone.{fails_alone, alone_row, Met}

-- what holds of all figures holds task by task
pub every_to : (P : Figures → Type 0) (f : Task → Figures) (ts : List Task) → Every P (map f ts) → (i : ℕ) → i < length ts → P (f (get_or ts i zero_task))
every_to P f [] e i l = absurd (omega arith)
every_to P f (t ∷ ts) e zero l = e.0
every_to P f (t ∷ ts) e (suc i) l = every_to P f ts e.1 i (omega arith)

-- ---- over figures and interrupts as the test of a server is handed them

-- no task
abbrev none : Figures
none = record { cost = 0; deadline = 0; period = 0; cache = 0 }

module _ (b : Board) (figures : List ℕ) (n : ℕ) where
  -- each before task i passes alone
  abbrev pub Tried : (i : ℕ) → Type 0
  Tried i = Passed (fails_alone b) none (figures_to figures n) n i

  pub tried_none : Tried 0
  tried_none = passed_none (omega (arith, each_length (figures_at figures) n))

  row_at : {i : ℕ} {v : Bool} → i < n → fits b (figures_at figures i ∷ []) ≡ v → fails_alone b (get_or (figures_to figures n) i none) ≡ not v
  row_at {i} l e = ap (fails_alone b) (figures_at_lem figures n i none l) ∙ ap not e

  all : take n (figures_to figures n) ≡ figures_to figures n
  all = ap (λ (k : ℕ). take k (figures_to figures n)) (sym (each_length (figures_at figures) n)) ∙ take-length (figures_to figures n)

  abbrev first : ℕ
  first = first_task (fails_alone b) (figures_to figures n)

  module _ {i : ℕ} (tried : Tried i) where
    -- one more
    pub tried_next : i < n → fits b (figures_at figures i ∷ []) ≡ true → Tried (i + 1)
    tried_next l e = passed_next tried l (row_at l e)

    -- the next fails: it is the first
    pub tried_found : i < n → fits b (figures_at figures i ∷ []) ≡ false → i + 1 ≡ first
    tried_found l e = sym (found_first tried l (row_at l e)) ∙ ap (first_task (fails_alone b)) all

    -- all have passed: none fails
    pub tried_all : n ≤ i → 0 ≡ first
    tried_all l = sym (all_first tried l) ∙ ap (first_task (fails_alone b)) all

  -- all pass where each fits alone
  each_tried : ((i : ℕ) → i < n → fits b (figures_at figures i ∷ []) ≡ true) → Tried n
  each_tried e = record { fits = omega (arith, each_length (figures_at figures) n); within = omega arith; earlier = λ i l. row_at l (e i l) }

-- without interrupts none fails
pub none_first_alone : {h : Header} {figures : List ℕ} (interrupts : List ℕ) {n H : ℕ} → Filed h figures n H → Met h (figures_to figures n) → length interrupts ≡ 0 →
    0 ≡ first_task (fails_alone (board_of h interrupts)) (figures_to figures n)
unfolding bounds_of
none_first_alone {h} {figures} interrupts {n} file met e = tried_all (board_of h interrupts) figures n (each_tried (board_of h interrupts) figures n alone) (omega arith)
  where
    bare : board_of h interrupts ≡ uninterrupted h
    bare = ap (λ (k : ℕ). record { header = h; interrupts = bounds_of interrupts 0 (k / 4) }) e

    alone : (i : ℕ) → i < n → fits (board_of h interrupts) (figures_at figures i ∷ []) ≡ true
    alone i l =
        ap (λ (b : Board). fits b (figures_at figures i ∷ [])) bare
        ∙ alone_fits h (figures_at figures i) (every_at (figures_at figures) (Member h) n l file.members) file.slot (every_at (figures_at figures) (λ (f : Figures). Meets (charged_in h f.cache f)) n l met)

-- ---- over a set

-- the first of what tasks give is the first of the tasks
first_given : {A : Type 0} {B : Type 0} (f : A → B) (p : B → Bool) (k : ℕ) (xs : List A) → first_from p k (map f xs) ≡ first_from (λ (x : A). p (f x)) k xs
unfolding first_from
first_given f p k [] = refl
first_given f p k (x ∷ xs) = ap (λ (m : ℕ). cond (p (f x)) k m) (first_given f p (suc k) xs)

module _ (set : TaskSet) where
  abbrev Alone : Figures → Type 0
  Alone f = fits (set_board set) (f ∷ []) ≡ true

  -- row 13 clear: each task fits alone
  pub alone_clear : first_task (alone_row set) (members set) ≡ 0 → Every (λ (f : Figures). fits (set_board set) (f ∷ []) ≡ true) (set_figures set)
  unfolding set_figures alone_row
  alone_clear e = every_by Alone (figures_of set.header) (members set) (λ i l. not-false _ (first_none (alone_row set) zero_task 0 (members set) e i l))

  -- and the other way
  pub clear_alone : Every (λ (f : Figures). fits (set_board set) (f ∷ []) ≡ true) (set_figures set) → first_task (alone_row set) (members set) ≡ 0
  unfolding set_figures alone_row
  clear_alone e = none_first (alone_row set) zero_task 1 (members set) (λ i l. ap not (every_to Alone (figures_of set.header) (members set) e i l))

  -- without interrupts no task fails alone
  pub none_alone : Chargeable set → set.interrupts.count ≡ 0 → first_task (alone_row set) (members set) ≡ 0
  none_alone ok e = clear_alone (figures_alone set ok (board_none set e))

  -- the first that fails alone by the set's figures and interrupts is the set's
  pub alone_is : set.count ≤ length set.tasks → {figures interrupts : List ℕ} → figures ≡ figure_numbers set → interrupts ≡ bound_numbers (set_interrupts set) →
      first_task (fails_alone (board_of set.header interrupts)) (figures_to figures set.count) ≡ first_task (alone_row set) (members set)
  unfolding set_figures alone_row
  alone_is room f n =
      ap₂ (λ (ns is : List ℕ). first_task (fails_alone (board_of set.header is)) (figures_to ns set.count)) f n
      ∙ ap₂ (λ (b : Board) (fs : List Figures). first_task (fails_alone b) fs) (board_back set) (figures_back set room)
      ∙ first_given (figures_of set.header) (fails_alone (set_board set)) 1 (members set)

  -- the figures that are lent are met
  pub set_met : set.count ≤ length set.tasks → Chargeable set → {figures : List ℕ} → figures ≡ figure_numbers set → Met set.header (figures_to figures set.count)
  set_met room ok f =
      subst (Met set.header) (sym (ap (λ (ns : List ℕ). figures_to ns set.count) f ∙ figures_back set room)) (figures_meet set ok)
