-- What is known of a set before its plan is laid: what rows 11 and 5 to 9 say of it, and its servers or its refusal.
-- Document 01, "Refusal numbers and their order" (RULES 6); document 02, Req 08.
use Rattle.refusals.specs.declared.Refusal.{Refusal}
use Rattle.std.specs.Prelude.{ℕ, ◌≡◌, replicate, Err, Ok, Result}
use Rattle.refusals.specs.declared.Refusal.TheVariants.{Ask}
use Rattle.refusals.specs.Refused.{Outcome}
use Rattle.refusals.specs.First.{first_of, when}
use Rattle.tasks.specs.declared.set.TaskSet.{TaskSet}
use Rattle.tasks.specs.Set.{most_tasks}
use Rattle.taskask.specs.Ask.{ask_row}
use Rattle.sizing.specs.declared.Servers.{Servers}
use Rattle.sizing.specs.Reserve.{servers_of}
use Rattle.setfigures.specs.Figures.{set_figures}
use Rattle.setfigures.specs.Board.{set_board}
use Rattle.rows.specs.Rows.{charged_outcome, horizon_of, cleared}
use Rattle.planner.specs.Planner.{Clear, plan_outcome}
use Rattle.settling.specs.declared.Settled.{Settled}

-- rows 11 and 5 to 9: refused by the first that holds, else clear with the horizon
unfoldable pub set_rows : TaskSet → Result ℕ Refusal
set_rows set = cleared (first_of (when (ask_row set) Ask) (charged_outcome set)) (horizon_of set)

-- a refused set has no servers
abbrev pub no_servers : Servers
no_servers = record { count = 0; placement = replicate most_tasks 0; cache = replicate most_tasks 0; reserve = replicate most_tasks 0 }

abbrev pub settled : Outcome → Servers → Settled
settled (Ok _) servers = record { servers = servers; outcome = Ok tt }
settled (Err r) servers = record { servers = no_servers; outcome = Err r }

-- the outcome of planning a set, and its servers
unfoldable pub settled_of : TaskSet → Settled
settled_of set = settled (plan_outcome set) (servers_of (set_board set) (set_figures set))

-- where rows are clear, those of the set are, and the horizon is the set's
pub record Cleared (rows : Result ℕ Refusal) (set : TaskSet) : Type 0 where
  pub told : (H : ℕ) → rows ≡ Ok H → Clear set × (H ≡ horizon_of set)

-- a set of which rows are known: their refusal, or its own outcome and servers
abbrev pub settled_by : Result ℕ Refusal → TaskSet → Settled
settled_by (Ok H) set = settled_of set
settled_by (Err r) set = settled (Err r) no_servers
