-- The servers of a plan that is handed in as numbers.
use Rattle.std.specs.Prelude.{ℕ, ◌+◌, ◌*◌, ◌-◌, List}
use Rattle.tasks.specs.Set.{most_tasks}
use Rattle.places.specs.Padded.{up_to}
use Rattle.plan.specs.declared.server.Server.{Server}
use Rattle.handed.specs.Handed.{number_at, byte_at, per_server, servers_at}

-- the server whose numbers stand from a place on
unfoldable pub server_from : (numbers : List ℕ) (at : ℕ) → Server
server_from ns at =
    record {
      count = number_at ns at;
      places = up_to (λ (k : ℕ). byte_at ns (at + k)) most_tasks;
      reserve = number_at ns (at + 1 + most_tasks);
      start = record { 0 = number_at ns (at + 1 + most_tasks + 1) };
      cache = number_at ns (at + 1 + most_tasks + 2);
    }

abbrev pub servers_from : (numbers : List ℕ) → List Server
servers_from ns = up_to (λ (q : ℕ). server_from ns (servers_at + per_server * (q - 1))) most_tasks
