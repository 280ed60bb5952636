-- A server by its record in a plan: its members, and what judging it asks.
-- Document 01, "From tasks to servers to ring" (RULES 3).
use Rattle.std.specs.Prelude.{ℕ, List, take}
use Rattle.loads.specs.Figures.{Figures, members_at}
use Rattle.served.specs.Served.{Served}
use Rattle.tasks.specs.declared.set.TaskSet.{TaskSet}
use Rattle.setfigures.specs.Figures.{figure_numbers}
use Rattle.rows.specs.Rows.{horizon_of}
use Rattle.plan.specs.declared.server.Server.{Server}
use Rattle.layout.specs.Layout.{server_of}
use Rattle.layout.specs.Made.{set_placement, set_reserves, set_caches}
use Rattle.planner.specs.Planner.{Clear}

-- the record of server q in the plan of a set
abbrev pub server_in : TaskSet → (q : ℕ) → Server
server_in set q = server_of set.header.slot (set_caches set) (set_placement set) (set_reserves set) q

-- the figures of the tasks at its places
abbrev pub own_members : TaskSet → Server → List Figures
own_members set own = members_at (figure_numbers set) (take own.count own.places)

-- the rows of the set are clear, and the server may be judged
pub record Recorded (set : TaskSet) (own : Server) : Type 0 where
  pub clear : Clear set
  pub served : Served set.header own.cache (figure_numbers set) own.places own.count (horizon_of set)
