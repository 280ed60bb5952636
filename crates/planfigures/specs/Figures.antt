-- The figures of a plan's lines, by the server, the task or the processor, from 1.
-- Document 01, "Lines of hexadecimal" (RULES 5).
use Rattle.std.specs.Prelude.{ℕ, ◌-◌, ◌^◌, List, [], ◌∷◌, cond, get_or, ltb}
use Rattle.tasks.specs.declared.set.Task.{Task}
use Rattle.tasks.specs.Set.{zero_task}
use Rattle.ring.specs.declared.cover.Stand.{Stand}
use Rattle.plan.specs.declared.server.Server.{Server}
use Rattle.plan.specs.Plan.{no_server, zero_stand}

-- what stands at place k, from 1, of a row of the plan
abbrev pub at : List ℕ → ℕ → ℕ
at row k = get_or row (k - 1) 0

-- FFFFFFFF, the ring start of a server that has a whole processor
abbrev pub mark : ℕ
mark = 16 ^ 8 - 1

-- server, reserve, ring start or mark, number of tasks
unfoldable pub server_figures : (servers : List Server) (slot : ℕ) → ℕ → List ℕ
server_figures servers slot q =
    let s = get_or servers (q - 1) no_server in
    q ∷ s.reserve ∷ cond (ltb s.reserve slot) s.start.0 mark ∷ s.count ∷ []

unfoldable pub placed_figures : (tasks : List Task) (placement : List ℕ) → ℕ → List ℕ
placed_figures tasks placement k = (get_or tasks (k - 1) zero_task).id ∷ at placement k ∷ []

-- processor, its first server, the ticks of that reserve
unfoldable pub processor_figures : (first : List Stand) → ℕ → List ℕ
processor_figures first p =
    let stand = get_or first (p - 1) zero_stand in
    p ∷ stand.server ∷ stand.left ∷ []
