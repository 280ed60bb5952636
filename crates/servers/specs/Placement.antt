-- Placing: each task in its turn joins a server that takes it, otherwise it opens a new one. The rule of the file says in which order
-- the tasks come and which server they join. A placement is the list of each task's server, in file order; servers count from 1, as
-- they are opened.
-- Document 01, "From tasks to servers to ring", rule 1 (RULES 3.1) (the report's Alg. 1); document 02, Req 05 and Req 07.
use Rattle.std.specs.Prelude.{ℕ, ◌-◌, max, List, [], ◌∷◌, ◌++◌}
use Rattle.tasks.specs.Set.{rule_number}
use Rattle.loads.specs.Figures.{Figures}
use Rattle.packing.specs.declared.Fit.{Fit}
use Rattle.packing.specs.Rules.{order_of, fit_of}
use Rattle.packing.specs.Turns.{turns_of, in_turn, in_file_order}
use Rattle.shares.specs.Totals.{total_in}
use Rattle.places.specs.Padded.{padded, up_to}
use Rattle.places.specs.Places.{chosen}
use Rattle.loads.specs.Charge.{cache_of}
use Rattle.members.specs.Server.{Board, server_horizon}
use Rattle.taking.specs.Takes.{takes}
use Rattle.joining.specs.Join.{join}
use Rattle.joining.specs.Fits.{fit_by}
use Rattle.servers.specs.declared.placement.Placed.{Placed}

-- how many servers there are: they are numbered without gaps
unfoldable pub servers_in : (placement : List ℕ) → ℕ
servers_in [] = 0
servers_in (a ∷ placement) = max a (servers_in placement)

-- the server of the task that comes, after those that are placed
abbrev pub Step : Type 0
Step = (done : List Figures) → (placement : List ℕ) → Figures → ℕ

-- each task in its order: those of `done` are placed, those of `left` still come
unfoldable pub place_by : Step → (done : List Figures) → (placement : List ℕ) → (left : List Figures) → List ℕ
place_by step done placement [] = placement
place_by step done placement (l ∷ left) =
    place_by step (done ++ (l ∷ [])) (placement ++ (step done placement l ∷ [])) left

-- the room of server q as it is before a task joins: H less what its tasks ask of H, the sum of c · (H / T)
abbrev pub room_in : Board → (H : ℕ) → (done : List Figures) → (placement : List ℕ) → (q : ℕ) → ℕ
room_in b H done placement q = H - total_in b.header H (chosen done placement q)

-- the server that a fit names of those that take the task, otherwise a new one
unfoldable pub join_by : Fit → Board → (H : ℕ) → Step
join_by fit b H done placement l = join (fit_by fit (room_in b H done placement)) (takes b done placement l) 0 (servers_in placement)

-- these tasks, in the order in which they come
unfoldable pub placed_by : Fit → Board → (H : ℕ) → (tasks : List Figures) → List ℕ
placed_by fit b H tasks = place_by (join_by fit b H) [] [] tasks

-- these tasks, placed in the order of a rule by its fit
unfoldable pub placement_by : (rule : ℕ) → Board → (H : ℕ) → (figures : List Figures) → List ℕ
placement_by rule b H figures =
    let turns = turns_of (order_of rule) figures in
    in_file_order turns (placed_by (fit_of rule) b H (in_turn turns figures))

-- the placement of a file's tasks: by the rule of its header, with rooms in its horizon
unfoldable pub placement_of : Board → (figures : List Figures) → List ℕ
placement_of b figures = placement_by (rule_number b.header) b (server_horizon b figures) figures

-- the cache cost of server q of a placement, and of each server in server order
abbrev pub cache_in : (figures : List Figures) → (placement : List ℕ) → (q : ℕ) → ℕ
cache_in figures placement q = cache_of (chosen figures placement q)

unfoldable pub caches_of : (figures : List Figures) → (placement : List ℕ) → List ℕ
caches_of figures placement = up_to (cache_in figures placement) (servers_in placement)

-- a placement of tasks in a struct: how many servers there are, the tasks' servers, and each server's cache cost
unfoldable pub placed : (figures : List Figures) → (placement : List ℕ) → Placed
placed figures placement = record { count = servers_in placement; placement = padded placement; cache = padded (caches_of figures placement) }
