-- The figures of a set's tasks: filled in task by task, and read back.
-- Assumes nothing.
use Prim.Native.Nat.{ℕ, ◌+◌, ◌*◌, ◌≤◌, ◌<◌}
use native.Mathlib.Omega.{arith}
use mathlib.Core.Path.{◌≡◌, ap, ◌∙◌}
use mathlib.Core.List.{List, map}
use lib.ListN.{length, take, get_or, replicate, length-map, length-replicate}
use Rattle.digits.specs.Stored.{stored}
use Rattle.digits.proofs.Stored.{stored_length}
use Rattle.tasks.specs.declared.set.Header.{Header}
use Rattle.tasks.specs.declared.set.Task.{Task}
use Rattle.tasks.specs.declared.set.TaskSet.{TaskSet}
use Rattle.tasks.specs.Set.{cache_cost, most_tasks, members, zero_task}
use Rattle.tasks.proofs.SetLaws.{members_length}
use Rattle.loads.specs.Figures.{Figures, figures_of, own_numbers, figures_to}
use Rattle.loads.proofs.FigureLaws.{own_length, put_figures, put_figures_lem, figures_stored}
use Rattle.loads.proofs.NumberLaws.{taken_length, taken_more}
use Rattle.setfigures.specs.Figures.{set_figures, figure_numbers}

-- the numbers of the first i tasks, the rest at zero
abbrev pub numbers_to : Header → List Task → ℕ → List ℕ
numbers_to h ts i = stored (replicate (4 * most_tasks) 0) 0 (own_numbers (map (figures_of h) (take i ts)))

-- those of task i behind them
pub numbers_next : (h : Header) (ts : List Task) (i : ℕ) {numbers : List ℕ} {cost : ℕ} → i < length ts → i < most_tasks → numbers ≡ numbers_to h ts i →
    cost ≡ cache_cost h (get_or ts i zero_task) →
    let t = get_or ts i zero_task in
    put_figures numbers i (record { cost = t.cost; deadline = t.deadline; period = t.period; cache = cost }) ≡ numbers_to h ts (i + 1)
numbers_next h ts i {numbers} l few e c =
    let t = get_or ts i zero_task in
    ap (λ (cost : ℕ). put_figures numbers i (record { cost = t.cost; deadline = t.deadline; period = t.period; cache = cost })) c
    ∙ ap (λ (ns : List ℕ). put_figures ns i (figures_of h t)) e
    ∙ put_figures_lem (replicate (4 * most_tasks) 0) (map (figures_of h) (take i ts)) (figures_of h t) (taken_length (figures_of h) ts i (omega arith)) (omega (arith, length-replicate {A = ℕ} (4 * most_tasks) 0))
    ∙ ap (λ (fs : List Figures). stored (replicate (4 * most_tasks) 0) 0 (own_numbers fs)) (taken_more (figures_of h) ts i zero_task l)

module _ (set : TaskSet) (room : set.count ≤ length set.tasks) where
  -- one for each task
  pub figures_length : length (set_figures set) ≡ set.count
  unfolding set_figures
  figures_length = length-map (members set) (figures_of set.header) ∙ members_length set room

  -- the first numbers are the figures
  pub figures_back : figures_to (figure_numbers set) set.count ≡ set_figures set
  unfolding figure_numbers
  figures_back = figures_stored (replicate (4 * most_tasks) 0) (set_figures set) figures_length

  pub numbers_there : set.count ≤ most_tasks → 4 * set.count ≤ length (figure_numbers set)
  unfolding figure_numbers
  numbers_there few =
      omega (
        arith,
        stored_length (replicate (4 * most_tasks) 0) 0 (own_numbers (set_figures set)) (omega (arith, own_length (set_figures set), figures_length, length-replicate {A = ℕ} (4 * most_tasks) 0)),
        length-replicate {A = ℕ} (4 * most_tasks) 0,
      )
