-- A server that is eased: tasks go, a C falls, a T rises, the board's ResD falls, or another figure does that it is charged by. Said in a
-- file's own figures: its header with what the 05 line gives, its tasks, and its 07 lines. Document 02, Req 12 (RULES 3.8).
use Rattle.std.specs.Prelude.{ℕ, ◌≤◌, ◌<◌, ◌≡◌, ◌⊎◌, List, [], ◌∷◌, map, length, get_or}
use Rattle.charging.specs.Charging.{effective_deadline}
use Rattle.demand.specs.Load.{Load, Every}
use Rattle.demand.specs.Passes.{Passes}
use Rattle.tasks.specs.declared.set.Header.{Header}
use Rattle.tasks.specs.declared.set.Task.{Task}
use Rattle.tasks.specs.declared.set.TaskSet.{TaskSet}
use Rattle.tasks.specs.Set.{longest_horizon, masked_ticks, cache_cost, members, interrupts_in, zero_task}
use Rattle.loads.specs.Figures.{Figures, figures_of}
use Rattle.loads.specs.Charge.{cache_of, server_loads, server_loss}
use Rattle.members.specs.Server.{server_demand, reserve_for}
use Rattle.setfigures.specs.Board.{set_board}
use Rattle.rows.specs.Rows.{horizon_of, Chargeable}

-- ---- a server of a set: some of its tasks

-- their own figures, their charged loads, and the largest cache cost among them
abbrev pub figures_in : TaskSet → (server : List Task) → List Figures
figures_in set server = map (figures_of set.header) server

abbrev pub loads_in : TaskSet → (server : List Task) → List Load
loads_in set server = server_loads set.header (figures_in set server)

abbrev pub cache_in : TaskSet → (server : List Task) → ℕ
cache_in set server = cache_of (figures_in set server)

-- its demand, its entry loss, and its smallest reserve
abbrev pub demand_in : TaskSet → (server : List Task) → ℕ → ℕ
demand_in set server = server_demand (set_board set) (figures_in set server)

abbrev pub loss_in : TaskSet → (server : List Task) → ℕ
loss_in set server = server_loss set.header (figures_in set server)

abbrev pub smallest_in : TaskSet → (server : List Task) → ℕ
smallest_in set server = reserve_for (set_board set) (figures_in set server)

-- it passes with the reserve R: demand is at most supply at every length
abbrev pub PassesIn : TaskSet → (server : List Task) → (R : ℕ) → Type 0
PassesIn set server R = Passes (demand_in set server) set.header.slot (loss_in set server) R

-- a task is one of these
abbrev pub Among : List Task → Task → Type 0
Among ts t = (i : ℕ) × (i < length ts) × (get_or ts i zero_task ≡ t)

-- rows 5, 6 and 8 of the set are clear, and the server's tasks are the set's
pub record ServerOf (set : TaskSet) (server : List Task) : Type 0 where
  pub charged : Chargeable set
  pub own : Every (Among (members set)) server

-- the set is within H, and the server has a task and passes with a whole processor
pub record Reserved (set : TaskSet) (server : List Task) : Type 0 where
  pub of : ServerOf set server
  pub some : 1 ≤ length server
  pub within : horizon_of set ≤ longest_horizon
  pub whole : PassesIn set server set.header.slot

-- ---- easing it

-- what is left of a list: some have gone, and each that is left stands to what it was as R says
pub data Left {A : Type 0} (R : A → A → Type 0) : List A → List A → Type 0 where
  none : Left R [] []
  gone : {x : A} {xs ys : List A} → Left R xs ys → Left R (x ∷ xs) ys
  kept : {x y : A} {xs ys : List A} → R x y → Left R xs ys → Left R (x ∷ xs) (y ∷ ys)

-- d = D − RelJ
abbrev pub due_in : Header → Task → ℕ
due_in h t = effective_deadline t.deadline h.relj

-- a task t under h is eased to u under k: its C and its cache cost have not risen and its T has not fallen; its d is the same or, where
-- B is 0, has not fallen
pub record TaskEased (h k : Header) (t u : Task) : Type 0 where
  pub cost : u.cost ≤ t.cost
  pub cache : cache_cost k u ≤ cache_cost h t
  pub period : t.period ≤ u.period
  pub due : (due_in k u ≡ due_in h t) ⊎ ((masked_ticks k ≡ 0) × (due_in h t ≤ due_in k u))

-- a server is eased: tasks may have gone, those that are left are eased, and RelO, CtswO, ResD and B have not risen; S, m and the
-- interrupts are the same
pub record Eased (set set' : TaskSet) (server server' : List Task) : Type 0 where
  pub tasks : Left (TaskEased set.header set'.header) server server'
  pub release : set'.header.relo ≤ set.header.relo
  pub switch : set'.header.ctswo ≤ set.header.ctswo
  pub delay : set'.header.resd ≤ set.header.resd
  pub masked : masked_ticks set'.header ≤ masked_ticks set.header
  pub slot : set'.header.slot ≡ set.header.slot
  pub processors : set'.header.processors ≡ set.header.processors
  pub interrupts : interrupts_in set' ≡ interrupts_in set

-- ---- one figure alone

-- a task with another C, with another D, and with another T
abbrev pub with_cost : Task → (C : ℕ) → Task
with_cost t C = record { id = t.id; cost = C; deadline = t.deadline; period = t.period; cache = t.cache }

abbrev pub with_deadline : Task → (D : ℕ) → Task
with_deadline t D = record { id = t.id; cost = t.cost; deadline = D; period = t.period; cache = t.cache }

abbrev pub with_period : Task → (T : ℕ) → Task
with_period t T = record { id = t.id; cost = t.cost; deadline = t.deadline; period = T; cache = t.cache }

-- a header with another ResD
abbrev pub with_delay : Header → (ResD : ℕ) → Header
with_delay h ResD =
    record {
      processors = h.processors;
      slot = h.slot;
      relj = h.relj;
      relo = h.relo;
      ctswo = h.ctswo;
      resd = ResD;
      cpmdo = h.cpmdo;
      masked = h.masked;
      rule = h.rule;
    }
