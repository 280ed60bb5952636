-- What a server's loads ask of H ticks, in two parts: what they ask with no cache cost, and their jobs, each of which pays the server's.
use Rattle.std.specs.Prelude.{ℕ, ◌+◌, ◌/◌, List, [], ◌∷◌, map}
use Rattle.tasks.specs.declared.set.Header.{Header}
use Rattle.loads.specs.Figures.{Figures}
use Rattle.loads.specs.Charge.{charged_in, server_loads}
use Rattle.members.specs.Server.{total_of}

-- the total of a server of these members
abbrev pub total_in : Header → (H : ℕ) → (members : List Figures) → ℕ
total_in h H members = total_of H (server_loads h members)

-- with no cache cost
abbrev pub work_in : Header → (H : ℕ) → (members : List Figures) → ℕ
work_in h H members = total_of H (map (charged_in h 0) members)

-- the jobs in H ticks
unfoldable pub jobs_in : (H : ℕ) → (members : List Figures) → ℕ
jobs_in H [] = 0
jobs_in H (f ∷ members) = H / f.period + jobs_in H members
