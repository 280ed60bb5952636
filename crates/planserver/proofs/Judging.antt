-- The record of one server of a checked plan, from the plan's rows: the members at its places are the server's, and it may be judged.
-- Assumes nothing.
use Prim.Native.Nat.{ℕ, ◌^◌, ◌≤◌, ◌<◌}
use mathlib.Core.Path.{◌≡◌, refl, sym, ap, ◌∙◌}
use mathlib.Core.Bool.{true}
use mathlib.Core.List.{List, map}
use native.Mathlib.Omega.{arith}
use lib.ListN.{length, take, length-take}
use Rattle.tasks.specs.Set.{most_tasks}
use Rattle.charging.specs.Charging.{entry_loss}
use Rattle.places.specs.Places.{places_in, chosen}
use Rattle.places.proofs.PaddedLaws.{padded_take}
use Rattle.places.proofs.PlacesLaws.{places_most, places_below}
use Rattle.loads.specs.Charge.{cache_of, server_loss}
use Rattle.loads.specs.Figures.{Figures, members_at}
use Rattle.members.proofs.FiledLaws.{Below, placed_chosen}
use Rattle.served.proofs.ServedLaws.{filed_served, small_cache}
use Rattle.tasks.specs.declared.set.TaskSet.{TaskSet}
use Rattle.plan.specs.declared.plan.Plan.{Plan}
use Rattle.plan.specs.declared.server.Server.{Server}
use Rattle.servers.specs.Placement.{servers_in}
use Rattle.setfigures.specs.Figures.{figure_numbers}
use Rattle.setfigures.proofs.FigureLaws.{figures_back}
use Rattle.plan.proofs.RecordLaws.{row_front}
use Rattle.reserves.specs.Slotted.{SlottedFirst}
use Rattle.layout.specs.Layout.{server_of}
use Rattle.layout.specs.Made.{set_placement, set_caches, plan_made}
use Rattle.layout.proofs.LaidLaws.{cost_with}
use Rattle.planner.specs.Planner.{Clear}
use Rattle.planner.proofs.Made.{count_most, fits, filed}
use Rattle.plancheck.specs.Makes.{makes}
use Rattle.plancheck.proofs.Checked.{of_set, laid_in, placement_count}
use Rattle.named.specs.Named.{is_server}
use Rattle.named.proofs.NamedLaws.{server_within}
use Rattle.planserver.specs.Members.{server_members}
use Rattle.planserver.specs.Recorded.{server_in, own_members, Recorded}

module _ (set : TaskSet) (full : length set.tasks ≡ most_tasks) (plan : Plan) (e : makes set plan ≡ true) (q : ℕ) (there : is_server plan q ≡ true) where
  clear : Clear set
  clear = (of_set set full plan e).clear

  abbrev row : (Server → ℕ) → List ℕ → Type 0
  row number ns = ns ≡ map number plan.server

  abbrev reserve : Server → ℕ
  reserve s = s.reserve

  abbrev cache : Server → ℕ
  cache s = s.cache

  -- the row of its reserves is laid, and the server is among them
  pub row_laid : length plan.server ≡ most_tasks → {rs : List ℕ} → row reserve rs → SlottedFirst plan.slot rs plan.servers × (1 ≤ q) × (q ≤ plan.servers)
  row_laid room r = (rw ((of_set set full plan e).slot, r) (laid_in set full plan e room), (server_within plan q there).0, (server_within plan q there).1)

  -- the record from the plan's rows is that of the set's plan
  pub row_server : {cs rs : List ℕ} → row cache cs → row reserve rs → server_of plan.slot (take plan.servers cs) (take set.count plan.placement) (take plan.servers rs) q ≡ server_in set q
  row_server k r =
      let own = of_set set full plan e in
      rw (own.slot, own.placement, row_front cache plan k ∙ own.caches, row_front reserve plan r ∙ own.reserves)

module _ (set : TaskSet) (full : length set.tasks ≡ most_tasks) (clear : Clear set) (q : ℕ) {own : Server} (is : own ≡ server_in set q) where
  abbrev own_places : List ℕ
  own_places = places_in (set_placement set) q

  own_count : own.count ≡ length own_places
  own_count = ap (λ (s : Server). s.count) is

  -- its places are those of the server's tasks
  places_are : take own.count own.places ≡ own_places
  places_are = ap (λ (s : Server). take s.count s.places) is ∙ padded_take own_places (length own_places) refl

  many : length (set_placement set) ≡ set.count
  many = placement_count set full (plan_made set) clear

  -- the members that stand at its places are the server's
  pub own_members_lem : own_members set own ≡ server_members set q
  own_members_lem =
      ap (members_at (figure_numbers set)) places_are
      ∙ placed_chosen (figure_numbers set) set.count (set_placement set) q (omega (arith, many))
      ∙ ap (λ (fs : List Figures). chosen fs (set_placement set) q) (figures_back set (fits set full clear))

  -- its cache cost is theirs
  own_cache : 1 ≤ q → q ≤ servers_in (set_placement set) → own.cache ≡ cache_of (server_members set q)
  unfolding set_caches
  own_cache first there = ap (λ (s : Server). s.cache) is ∙ cost_with set (set_placement set) q first there

  -- they may be judged
  pub own_recorded : 1 ≤ q → q ≤ servers_in (set_placement set) → Recorded set own
  own_recorded first there = record {
    clear = clear;
    served =
        filed_served (filed set full clear refl refl) own.places own.count own.cache
        (omega (arith, ap length places_are, own_count, length-take own.count own.places))
        (omega (arith, own_count, places_most (set_placement set) q (omega (arith, many, count_most set full clear))))
        (rw places_are below)
        (own_cache first there ∙ ap cache_of (sym own_members_lem));
  }
    where
      below : Below set.count own_places
      below i l = omega (arith, places_below (set_placement set) q i l, many)

-- of a server that may be judged
module _ {set : TaskSet} {own : Server} (of : Recorded set own) where
  -- the cache cost has four digits at most
  pub cache_small : own.cache < 2 ^ 32
  cache_small = small_cache of.served

  -- the entry loss by it is that of the members
  pub own_loss : entry_loss set.header.resd own.cache ≡ server_loss set.header (own_members set own)
  unfolding server_loss
  own_loss = ap (entry_loss set.header.resd) of.served.cost
