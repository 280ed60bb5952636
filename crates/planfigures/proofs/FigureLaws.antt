-- Laws of the figures of each kind of line.
-- Assumes nothing.
use Prim.Native.Nat.{ℕ, ◌+◌}
use mathlib.Core.Path.{◌≡◌, refl, ap, ◌∙◌}
use mathlib.Core.List.{List, [], ◌∷◌, map}
use mathlib.Core.Bool.{cond}
use native.Mathlib.Nat.{add-sub_cancel}
use lib.Dec.{ltb}
use lib.ListN.{length, get_or}
use Rattle.tasks.specs.declared.set.Task.{Task}
use Rattle.tasks.specs.Set.{zero_task}
use Rattle.ring.specs.declared.cover.Stand.{Stand}
use Rattle.plan.specs.declared.server.Server.{Server}
use Rattle.plan.specs.Plan.{zero_stand}
use Rattle.plan.proofs.RecordLaws.{row_at}
use Rattle.planfigures.specs.Figures.{mark, server_figures, placed_figures, processor_figures}

-- the rows of the servers' reserves, starts and numbers of tasks
pub record ReadOf (servers : List Server) (reserve start count : List ℕ) : Type 0 where
  pub reserves : reserve ≡ map (λ (s : Server). s.reserve) servers
  pub starts : start ≡ map (λ (s : Server). s.start.0) servers
  pub counts : count ≡ map (λ (s : Server). s.count) servers

-- the figures of each kind of line: how many, and what they are at the place i from 0
module _ (servers : List Server) (slot : ℕ) where
  pub server_each : (q : ℕ) → length (server_figures servers slot q) ≡ 4
  unfolding server_figures
  server_each q = refl

  pub server_at_lem : (i : ℕ) {reserve start count : List ℕ} {begin : ℕ} → ReadOf servers reserve start count
      → begin ≡ cond (ltb (get_or reserve i 0) slot) (get_or start i 0) mark
      → (i + 1) ∷ get_or reserve i 0 ∷ begin ∷ get_or count i 0 ∷ [] ≡ server_figures servers slot (i + 1)
  unfolding server_figures
  server_at_lem i read e =
      rw (
        e,
        ap (λ (l : List ℕ). get_or l i 0) read.reserves ∙ row_at (λ (s : Server). s.reserve) servers i refl,
        ap (λ (l : List ℕ). get_or l i 0) read.starts ∙ row_at (λ (s : Server). s.start.0) servers i refl,
        ap (λ (l : List ℕ). get_or l i 0) read.counts ∙ row_at (λ (s : Server). s.count) servers i refl,
        add-sub_cancel i 1,
      )

module _ (tasks : List Task) (placement : List ℕ) where
  pub placed_each : (k : ℕ) → length (placed_figures tasks placement k) ≡ 2
  unfolding placed_figures
  placed_each k = refl

  pub placed_at : (i : ℕ) → (get_or tasks i zero_task).id ∷ get_or placement i 0 ∷ [] ≡ placed_figures tasks placement (i + 1)
  unfolding placed_figures
  placed_at i = rw (add-sub_cancel i 1)

module _ (first : List Stand) where
  pub processor_each : (p : ℕ) → length (processor_figures first p) ≡ 3
  unfolding processor_figures
  processor_each p = refl

  pub processor_at : (i : ℕ) → (i + 1) ∷ (get_or first i zero_stand).server ∷ (get_or first i zero_stand).left ∷ [] ≡ processor_figures first (i + 1)
  unfolding processor_figures
  processor_at i = rw (add-sub_cancel i 1)
