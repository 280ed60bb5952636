-- A server told in numbers.
use Rattle.std.specs.Prelude.{ℕ, ◌-◌, List, [], ◌∷◌, ◌++◌, get_or}
use Rattle.tasks.specs.Set.{most_tasks}
use Rattle.places.specs.Padded.{up_to}
use Rattle.plan.specs.declared.server.Server.{Server}

-- the places of a server's tasks, as many as there is room for
unfoldable pub place_numbers : (places : List ℕ) → List ℕ
place_numbers places = up_to (λ (k : ℕ). get_or places (k - 1) 0) most_tasks

-- a server's count, its places, then reserve, start and cache cost
unfoldable pub server_numbers : Server → List ℕ
server_numbers s = (s.count ∷ []) ++ (place_numbers s.places ++ (s.reserve ∷ s.start.0 ∷ s.cache ∷ []))
