-- Demand of a server at a length: the ticks that its tasks must have had in a window of that length.
-- Document 01, "Demand, supply, and the report's test" (RULES 2.1).
use Rattle.std.specs.Prelude.{ℕ, ◌+◌, ◌*◌, ◌-◌, ◌/◌, List, [], ◌∷◌, cond, leb}
use Rattle.demand.specs.Load.{Load}

-- max(0, floor((t − d)/T) + 1): the jobs whose release and deadline both lie in a window of t
unfoldable pub jobs : (d T t : ℕ) → ℕ
jobs d T t = cond (leb d t) ((t - d) / T + 1) 0

-- the sum over the loads of c · jobs
unfoldable pub demand : List Load → ℕ → ℕ
demand [] t = 0
demand (l ∷ ls) t = l.cost * jobs l.deadline l.period t + demand ls t
