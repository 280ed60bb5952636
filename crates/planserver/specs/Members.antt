-- The members of a server that a question names, and the reserves that it is allowed.
-- Document 01, "From tasks to servers to ring" (RULES 3) and row 11 of the refusals (RULES 6.5).
use Rattle.std.specs.Prelude.{ℕ, Bool, List}
use Rattle.places.specs.Places.{chosen}
use Rattle.loads.specs.Charge.{server_loss}
use Rattle.loads.specs.Figures.{Figures}
use Rattle.tasks.specs.declared.set.TaskSet.{TaskSet}
use Rattle.setfigures.specs.Figures.{set_figures}
use Rattle.layout.specs.Made.{set_placement}
use Rattle.named.specs.Named.{allowed}

-- the members of server q: the figures of its tasks, in file order
abbrev pub server_members : TaskSet → (q : ℕ) → List Figures
server_members set q = chosen (set_figures set) (set_placement set) q

-- a reserve is allowed by the entry loss of server q
abbrev pub allowed_to : TaskSet → (q R : ℕ) → Bool
allowed_to set q R = allowed set.header.slot (server_loss set.header (server_members set q)) R
