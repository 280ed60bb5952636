-- The smallest deadline of a server: that of its loads, or 0 where it has no members.
use Rattle.std.specs.Prelude.{ℕ, List}
use Rattle.masking.specs.Masking.{soonest}
use Rattle.tasks.specs.declared.set.Header.{Header}
use Rattle.loads.specs.Figures.{Figures}
use Rattle.loads.specs.Charge.{server_loads}

-- the smallest deadline of a server of these members
abbrev pub soonest_in : Header → (members : List Figures) → ℕ
soonest_in h members = soonest (server_loads h members)
