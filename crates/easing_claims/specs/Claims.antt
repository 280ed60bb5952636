-- What holds of two accepted task files where servers of the one are eased to servers of the other, each claim as a type. The proofs stand
-- under the same names in proofs/Claims.antt. Document 02, Req 12 (RULES 3.8).
use Rattle.std.specs.Prelude.{ℕ, ◌+◌, ◌≤◌, ◌≡◌, List, take}
use Rattle.tasks.specs.declared.set.Task.{Task}
use Rattle.tasks.specs.declared.set.TaskSet.{TaskSet}
use Rattle.tasks.specs.Set.{members}
use Rattle.places.specs.Places.{chosen}
use Rattle.plan.specs.declared.plan.Plan.{Plan}
use Rattle.plan.specs.Plan.{server_at}
use Rattle.easing.specs.Eased.{Eased}
use Rattle.filed_claims.specs.Claims.{FileAccepted, set_in, plan_in}

-- the tasks of server q, as the 13 lines of the plan name them, in file order
abbrev pub tasks_in : TaskSet → Plan → (q : ℕ) → List Task
tasks_in set plan q = chosen (members set) (take set.count plan.placement) q

-- server q of a file is eased to server q' of another
abbrev pub ServerEased : (text text' : List ℕ) → (q q' : ℕ) → Type 0
ServerEased text text' q q' =
    Eased (set_in text) (set_in text') (tasks_in (set_in text) (plan_in text) q) (tasks_in (set_in text') (plan_in text') q')

-- a file has a server of this number
abbrev pub HasServer : (text : List ℕ) → (q : ℕ) → Type 0
HasServer text q = (1 ≤ q) × (q ≤ (plan_in text).servers)

-- The reserve in its 12 line does not rise.
abbrev pub FileEased : Type 0
FileEased =
    (text text' : List ℕ) (q q' : ℕ) → FileAccepted text → FileAccepted text' → HasServer text q → HasServer text' q' →
    ServerEased text text' q q' → (server_at (plan_in text') q').reserve ≤ (server_at (plan_in text) q).reserve

-- Where the tasks that are left keep their servers, so that each server is eased to the one of its number, no more processors are needed.
abbrev pub FileKeepsServers : Type 0
FileKeepsServers =
    (text text' : List ℕ) → FileAccepted text → FileAccepted text' → (plan_in text').servers ≡ (plan_in text).servers →
    ((q : ℕ) → HasServer text q → ServerEased text text' q q) →
    (plan_in text').ring + (plan_in text').whole ≤ (plan_in text).ring + (plan_in text).whole
