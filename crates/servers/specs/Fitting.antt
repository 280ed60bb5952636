-- A placement that fits: each task has one server, no server is empty, and every server passes. The planner makes one by the rule of
-- the file; an edit or a mended plan has one without being that. Document 01, "From tasks to servers to ring", rule 1 (RULES 3.1).
use Rattle.std.specs.Prelude.{ℕ, ◌≤◌, ◌<◌, ◌≡◌, List, length, get_or}
use Rattle.loads.specs.Figures.{Figures}
use Rattle.demand.specs.Passes.{Passes}
use Rattle.places.specs.Places.{chosen}
use Rattle.loads.specs.Charge.{server_loss}
use Rattle.members.specs.Server.{Board, server_demand}
use Rattle.servers.specs.Placement.{servers_in}

-- a placement names one server for each task, among those that there are, and no server is empty
pub record Parted (figures : List Figures) (placement : List ℕ) : Type 0 where
  pub one_each : length placement ≡ length figures
  pub there : (i : ℕ) → i < length placement → (1 ≤ get_or placement i 0) × (get_or placement i 0 ≤ servers_in placement)
  pub none_empty : (q : ℕ) → 1 ≤ q → q ≤ servers_in placement → (i : ℕ) × (i < length placement) × (get_or placement i 0 ≡ q)

-- a server of these members passes with R = S, over all lengths
abbrev pub PassesWhole : Board → (members : List Figures) → Type 0
PassesWhole b members = Passes (server_demand b members) b.header.slot (server_loss b.header members) b.header.slot

pub record Fitting (b : Board) (figures : List Figures) (placement : List ℕ) : Type 0 where
  pub parted : Parted figures placement
  pub passes : (q : ℕ) → 1 ≤ q → q ≤ servers_in placement → PassesWhole b (chosen figures placement q)
