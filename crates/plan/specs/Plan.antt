-- The plan as a value: the all-zero plan, and the servers of a plan, their reserves and their cache costs.
-- Document 01, "From tasks to servers to ring" (RULES 3) and "Lines of hexadecimal" (RULES 5).
use Rattle.std.specs.Prelude.{ℕ, pred, List, [], map, take, get_or, replicate}
use Rattle.tasks.specs.Set.{most_tasks}
use Rattle.ring.specs.declared.cover.Stand.{Stand}
use Rattle.plan.specs.declared.plan.Plan.{Plan}
use Rattle.plan.specs.declared.server.Server.{Server}

abbrev pub zero_server : Server
zero_server = record { count = 0; places = replicate most_tasks 0; reserve = 0; start = record { 0 = 0 }; cache = 0 }

abbrev pub zero_stand : Stand
zero_stand = record { server = 0; left = 0 }

-- the all-zero plan, which a refused planning answers
abbrev pub zero_plan : Plan
zero_plan =
    record {
      whole = 0;
      ring = 0;
      servers = 0;
      slot = 0;
      idle = 0;
      server = replicate most_tasks zero_server;
      placement = replicate most_tasks 0;
      first = replicate most_tasks zero_stand;
    }

-- what stands past the end of a list of servers
abbrev pub no_server : Server
no_server = record { count = 0; places = []; reserve = 0; start = record { 0 = 0 }; cache = 0 }

-- server q of a plan; servers count from 1
abbrev pub server_at : Plan → (q : ℕ) → Server
server_at plan q = get_or plan.server (pred q) no_server

-- the reserves of a plan's servers
abbrev pub reserves_in : Plan → List ℕ
reserves_in plan = map (λ (s : Server). s.reserve) (take plan.servers plan.server)

-- and their cache costs
abbrev pub caches_in : Plan → List ℕ
caches_in plan = map (λ (s : Server). s.cache) (take plan.servers plan.server)
