-- What is claimed of row 8, each claim as a type. The proofs stand under the same names in proofs/Claims.antt.
-- Document 02, Req 07.
use Rattle.std.specs.Prelude.{◌≡◌}
use Rattle.charging.specs.Charging.{effective_cost}
use Rattle.tasks.specs.declared.set.Header.{Header}
use Rattle.tasks.specs.declared.set.Task.{Task}
use Rattle.tasks.specs.Set.{cache_cost}
use Rattle.tightrows.specs.Rows.{own_load}

-- A task's cost in row 8 is charged with its own cache cost: that of its 03 line, or the board's.
abbrev pub OwnCost : Type 0
OwnCost = (h : Header) (t : Task) → (own_load h t).cost ≡ effective_cost t.cost h.relo h.ctswo (cache_cost h t)
