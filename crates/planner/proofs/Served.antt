-- What placing and sizing answers for a file's figures can be laid out, and its layout is that of the definitions.
-- Assumes nothing.
use Prim.Native.Nat.{ℕ, ◌^◌, ◌≤◌, ◌<◌}
use mathlib.Core.Path.{◌≡◌, sym, ap, ◌∙◌}
use mathlib.Core.List.{List}
use native.Mathlib.Omega.{arith}
use lib.ListN.{length, take, get_or}
use lib.Seq.{get_or-take}
use Rattle.demand.specs.Load.{Every}
use Rattle.tasks.specs.Set.{most_tasks}
use Rattle.places.specs.Padded.{padded}
use Rattle.loads.specs.Charge.{Member}
use Rattle.loads.specs.Figures.{Figures}
use Rattle.members.specs.Server.{Board, SoundBoard}
use Rattle.servers.specs.Placement.{servers_in, placement_of, cache_in, caches_of}
use Rattle.sizing.specs.Reserve.{reserves_of, sized, servers_of}
use Rattle.servers.specs.Claims.{FitAlone}
use Rattle.sizing.specs.declared.Servers.{Servers}
use Rattle.places.proofs.PaddedLaws.{padded_length, padded_take, up_length}
use Rattle.servers.proofs.PlacementLaws.{placement_length}
use Rattle.servers.proofs.Claims.{servers_few, planner_fits}
use Rattle.sizing.proofs.Claims as size
use Rattle.reserves.specs.Slotted.{SlottedFirst}
use Rattle.layout.specs.Layout.{laid_out}
use Rattle.layout.specs.Layable.{Layable}

module _ (b : Board) (figures : List Figures) (few : length figures ≤ most_tasks) (members : Every (Member b.header) figures) (alone : FitAlone b figures) (sound : SoundBoard b) (small : b.header.slot < 2 ^ 32) where
  abbrev placement : List ℕ
  placement = placement_of b figures

  abbrev reserves : List ℕ
  reserves = reserves_of b figures (placement_of b figures)

  abbrev caches : List ℕ
  caches = caches_of figures (placement_of b figures)

  -- there are at most most_tasks servers
  pub count_few : servers_in placement ≤ most_tasks
  count_few = omega (arith, servers_few b figures)

  -- and one reserve for each
  pub reserves_count : length reserves ≡ servers_in placement
  reserves_count = size.reserves_count b figures placement

  -- from 1 to the slot
  reserves_range : (i : ℕ) → i < length reserves → (1 ≤ get_or reserves i 0) × (get_or reserves i 0 ≤ b.header.slot)
  reserves_range = size.reserves_range b figures placement sound members (planner_fits b figures sound members alone)

  -- places that begin with the reserves are laid
  pub laid_by : (rs : List ℕ) (n : ℕ) → length rs ≡ most_tasks → n ≡ servers_in placement → take n rs ≡ reserves → SlottedFirst b.header.slot rs n
  laid_by rs n full e t = record {
    there = omega (arith, full, e, count_few);
    few = omega (arith, e, count_few);
    slot_some = sound.slot;
    slot_below = small;
    some = λ i l. rw (at i l) (reserves_range i (here i l)).0;
    within = λ i l. rw (at i l) (reserves_range i (here i l)).1;
  }
    where
      here : (i : ℕ) → i < n → i < length reserves
      here i l = omega (arith, e, reserves_count)

      at : (i : ℕ) → i < n → get_or rs i 0 ≡ get_or reserves i 0
      at i l = sym (get_or-take n rs i 0 l) ∙ ap (λ (ns : List ℕ). get_or ns i 0) t

  module _ {sv : Servers} (g : sv ≡ servers_of b figures) {n : ℕ} (tasks : n ≡ length figures) where
    count_is : sv.count ≡ servers_in placement
    unfolding sized
    count_is = ap (λ (s : Servers). s.count) g

    reserve_is : sv.reserve ≡ padded reserves
    unfolding sized
    reserve_is = ap (λ (s : Servers). s.reserve) g

    placement_is : sv.placement ≡ padded placement
    unfolding sized
    placement_is = ap (λ (s : Servers). s.placement) g

    -- its reserves stand at the front
    pub front_reserves : take sv.count sv.reserve ≡ reserves
    front_reserves =
        ap (λ (k : ℕ). take k sv.reserve) count_is ∙ ap (take (servers_in placement)) reserve_is
        ∙ padded_take reserves (servers_in placement) reserves_count

    front_placement : take n sv.placement ≡ placement
    front_placement =
        ap (λ (k : ℕ). take k sv.placement) tasks ∙ ap (take (length figures)) placement_is
        ∙ padded_take placement (length figures) (placement_length b figures)

    -- and its cache costs
    front_caches : take sv.count sv.cache ≡ caches
    unfolding sized caches_of
    front_caches =
        ap (λ (k : ℕ). take k sv.cache) count_is ∙ ap (λ (s : Servers). take (servers_in placement) s.cache) g
        ∙ padded_take caches (servers_in placement) (up_length (cache_in figures placement) (servers_in placement))

    -- the answer can be laid out
    pub layable : Layable sv n b.header.slot
    layable = record {
      tasks_few = omega (arith, tasks);
      servers_few = omega (arith, count_is, count_few);
      laid = laid_by sv.reserve sv.count (ap length reserve_is ∙ padded_length reserves (omega (arith, reserves_count, count_few))) count_is front_reserves;
      reserve_room = ap padded front_reserves ∙ sym reserve_is;
      placement_room = ap padded front_placement ∙ sym placement_is;
    }

    -- its layout is that of the placement, the reserves and the cache costs
    pub laid_is : laid_out b.header.slot (take sv.count sv.cache) (take n sv.placement) (take sv.count sv.reserve) ≡ laid_out b.header.slot caches placement reserves
    laid_is =
        ap (λ (cs : List ℕ). laid_out b.header.slot cs (take n sv.placement) (take sv.count sv.reserve)) front_caches
        ∙ ap (λ (p : List ℕ). laid_out b.header.slot caches p (take sv.count sv.reserve)) front_placement
        ∙ ap (laid_out b.header.slot caches placement) front_reserves
