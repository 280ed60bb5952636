-- The rows of a set's servers: the record that is made of them is the one in the set's plan, and whether a server is there.
-- Assumes nothing.
use Prim.Native.Nat.{ℕ, ◌≤◌, ◌<◌}
use mathlib.Core.Path.{◌≡◌, sym, ap, ◌∙◌}
use mathlib.Core.Bool.{true, false}
use native.Mathlib.Omega.{arith}
use borrow.Author.Tests.{le-leb, lt-leb}
use lib.ListN.{length, take}
use Rattle.tasks.specs.declared.set.TaskSet.{TaskSet}
use Rattle.tasks.specs.Set.{most_tasks}
use Rattle.places.proofs.PaddedLaws.{padded_take, up_length}
use Rattle.servers.specs.Placement.{servers_in, placement_of, cache_in, caches_of}
use Rattle.servers.proofs.PlacementLaws.{placement_length}
use Rattle.sizing.specs.declared.Servers.{Servers}
use Rattle.sizing.specs.Reserve.{sized, servers_of}
use Rattle.setfigures.specs.Figures.{set_figures}
use Rattle.setfigures.specs.Board.{set_board}
use Rattle.setfigures.proofs.FigureLaws.{figures_length}
use Rattle.layout.specs.Layout.{server_of, laid_out}
use Rattle.layout.specs.Made.{reserves_with, caches_with, plan_with, set_placement, set_reserves, set_caches, plan_made}
use Rattle.planner.specs.Planner.{Placeable}
use Rattle.planner.proofs.Made.{fits, members, alone, sound, slot_below, few_figures, set_count}
use Rattle.planner.proofs.Served.{front_reserves}
use Rattle.named.specs.Named.{is_server}
use Rattle.planserver.specs.Recorded.{server_in}

module _ (set : TaskSet) (full : length set.tasks ≡ most_tasks) (clear : Placeable set) {sv : Servers} (own : sv ≡ servers_of (set_board set) (set_figures set)) where
  -- there are as many as the placement has
  pub count_is : sv.count ≡ servers_in (set_placement set)
  unfolding set_placement sized
  count_is = ap (λ (s : Servers). s.count) own

  tasks : set.count ≡ length (set_figures set)
  tasks = sym (figures_length set (fits set full clear.clear))

  reserves_front : take sv.count sv.reserve ≡ set_reserves set
  unfolding set_reserves reserves_with set_placement
  reserves_front =
      front_reserves (set_board set) (set_figures set) (few_figures set full clear.clear) (members set full clear.clear) (alone set full clear)
      (sound set full clear.clear) (slot_below set full clear.clear) own tasks

  placement_front : take set.count sv.placement ≡ set_placement set
  unfolding set_placement sized
  placement_front =
      ap (λ (k : ℕ). take k sv.placement) tasks ∙ ap (λ (s : Servers). take (length (set_figures set)) s.placement) own
      ∙ padded_take (placement_of (set_board set) (set_figures set)) (length (set_figures set)) (placement_length (set_board set) (set_figures set))

  caches_front : take sv.count sv.cache ≡ set_caches set
  unfolding set_caches caches_with set_placement sized caches_of
  caches_front =
      let placement = placement_of (set_board set) (set_figures set) in
      ap (λ (k : ℕ). take k sv.cache) count_is ∙ ap (λ (s : Servers). take (servers_in placement) s.cache) own
      ∙ padded_take (caches_of (set_figures set) placement) (servers_in placement) (up_length (cache_in (set_figures set) placement) (servers_in placement))

  -- the record of a server
  pub row_server : (q : ℕ) → server_of set.header.slot (take sv.count sv.cache) (take set.count sv.placement) (take sv.count sv.reserve) q ≡ server_in set q
  row_server q = rw (caches_front, placement_front, reserves_front)

  -- the plan has as many
  servers_are : (plan_made set).servers ≡ sv.count
  unfolding plan_made plan_with laid_out set_reserves
  servers_are = set_count set full clear.clear ∙ sym count_is

  -- which are there
  pub is_there : (q : ℕ) → 1 ≤ q → q ≤ sv.count → is_server (plan_made set) q ≡ true
  unfolding is_server
  is_there q first last = rw (le-leb 1 q first, le-leb q (plan_made set).servers (omega (arith, servers_are)))

  pub is_none : (q : ℕ) → sv.count < q → is_server (plan_made set) q ≡ false
  unfolding is_server
  is_none q past = rw (le-leb 1 q (omega arith), lt-leb q (plan_made set).servers (omega (arith, servers_are)))

-- no server is numbered 0
pub none_first : (set : TaskSet) (q : ℕ) → q < 1 → is_server (plan_made set) q ≡ false
unfolding is_server
none_first set q e = rw (lt-leb 1 q e)
