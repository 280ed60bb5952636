-- What is claimed of sizing, each claim as a type. The proofs stand under the same names in proofs/Claims.antt.
-- Document 01, "From tasks to servers to ring", rule 2 (RULES 3.2).
use Rattle.std.specs.Prelude.{ℕ, ◌-◌, ◌≤◌, ◌≡◌, List, length, get_or}
use Rattle.demand.specs.Load.{Every}
use Rattle.loads.specs.Figures.{Figures}
use Rattle.verdict.specs.Reserve.{Smallest}
use Rattle.places.specs.Places.{chosen}
use Rattle.loads.specs.Charge.{server_loss, Member}
use Rattle.members.specs.Server.{Board, SoundBoard, server_demand}
use Rattle.servers.specs.Placement.{servers_in}
use Rattle.servers.specs.Fitting.{Fitting}
use Rattle.sizing.specs.Reserve.{reserves_of}

-- A fitting placement has one reserve for each server: allowed, the server passes with it over all lengths, and with no smaller
-- allowed one.
abbrev pub SmallestReserves : Type 0
SmallestReserves =
    (b : Board) (figures : List Figures) (placement : List ℕ) → SoundBoard b → Every (Member b.header) figures → Fitting b figures placement
    → (length (reserves_of b figures placement) ≡ servers_in placement)
    × ((q : ℕ) → 1 ≤ q → q ≤ servers_in placement
    → Smallest (server_demand b (chosen figures placement q)) b.header.slot (server_loss b.header (chosen figures placement q)) (get_or (reserves_of b figures placement) (q - 1) 0))
