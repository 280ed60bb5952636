-- The reserve of each server of a placement, whatever placement that is, in server order.
-- Document 01, "From tasks to servers to ring", rule 2 (RULES 3.2).
use Rattle.std.specs.Prelude.{ℕ, suc, ◌≤◌, ◌<◌, ◌≡◌, List, length, get_or}
use Rattle.loads.specs.Figures.{Figures}
use Rattle.places.specs.Padded.{padded, up_to}
use Rattle.places.specs.Places.{chosen}
use Rattle.members.specs.Server.{Board, reserve_for}
use Rattle.servers.specs.Placement.{servers_in, placement_of, cache_in, caches_of}
use Rattle.sizing.specs.declared.Servers.{Servers}

-- the smallest allowed reserve with which server q of a placement passes
abbrev pub reserve_in : Board → (figures : List Figures) → (placement : List ℕ) → (q : ℕ) → ℕ
reserve_in b figures placement q = reserve_for b (chosen figures placement q)

unfoldable pub reserves_of : Board → (figures : List Figures) → (placement : List ℕ) → List ℕ
reserves_of b figures placement = up_to (reserve_in b figures placement) (servers_in placement)

-- a placement with each server's cache cost and reserve
unfoldable pub sized : Board → (figures : List Figures) → (placement : List ℕ) → Servers
sized b figures placement =
    record {
      count = servers_in placement;
      placement = padded placement;
      cache = padded (caches_of figures placement);
      reserve = padded (reserves_of b figures placement);
    }

-- what placing and sizing all tasks of a file answers
abbrev pub servers_of : Board → (figures : List Figures) → Servers
servers_of b figures = sized b figures (placement_of b figures)

-- the cache costs of servers 1 to count stand at the front of a row
pub record Costed (figures : List Figures) (placement cache : List ℕ) (count : ℕ) : Type 0 where
  pub there : count ≤ length cache
  pub each : (k : ℕ) → k < count → get_or cache k 0 ≡ cache_in figures placement (suc k)
