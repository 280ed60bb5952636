-- The servers and the first reserves of a plan told in numbers.
use Rattle.std.specs.Prelude.{ℕ, ◌-◌, List, [], ◌∷◌, get_or}
use Rattle.ring.specs.declared.cover.Stand.{Stand}
use Rattle.plan.specs.declared.server.Server.{Server}
use Rattle.plan.specs.Plan.{no_server, zero_stand}
use Rattle.numberedserver.specs.Server.{server_numbers}

-- server q and processor p of a plan, from 1
unfoldable pub server_numbers_at : (servers : List Server) → ℕ → List ℕ
server_numbers_at servers q = server_numbers (get_or servers (q - 1) no_server)

abbrev pub stand_numbers : Stand → List ℕ
stand_numbers s = s.server ∷ s.left ∷ []

unfoldable pub stand_numbers_at : (first : List Stand) → ℕ → List ℕ
stand_numbers_at first p = stand_numbers (get_or first (p - 1) zero_stand)
