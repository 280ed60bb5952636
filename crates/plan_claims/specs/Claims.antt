-- What is promised of planning, of the check of a plan and of the two questions, each promise as a type. The proofs stand
-- under the same names in proofs/Claims. Document 01, "Refusal numbers and their order" (RULES 6) and "From tasks to servers to ring" (RULES 3);
-- document 02, Req 08.
use Rattle.std.specs.Prelude.{ℕ, ◌+◌, ◌-◌, ◌≤◌, ◌<◌, ◌≡◌, ◌↔◌, ◌⊎◌, Bool, true, false, List, [], ◌∷◌, length, get_or, take, Err, Ok}
use Rattle.refusals.specs.declared.Refusal.{Refusal}
use Rattle.refusals.specs.declared.Refusal.TheVariants.{Board, Range, Slot, Tight, Horizon, Full, Ask, Alone}
use Rattle.refusals.specs.Refused.{Outcome}
use Rattle.refusals.specs.Refused.{number_of, place_of}
use Rattle.verdict.specs.declared.answer.Verdict.TheVariants.{Yes}
use Rattle.verdict.specs.Reserve.{Smallest}
use Rattle.verdict.specs.Claims.{VerdictTells}
use Rattle.demand.specs.Supply.{supply}
use Rattle.places.specs.Places.{places_in, chosen}
use Rattle.loads.specs.Charge.{cache_of, server_loss}
use Rattle.loads.specs.Figures.{Figures, figures_of}
use Rattle.members.specs.Server.{server_demand}
use Rattle.servers.specs.Fitting.{PassesWhole, Fitting}
use Rattle.ring.specs.declared.clock.Tick.{Tick}
use Rattle.reserves.specs.Reserves.{ring_processors, wholes}
use Rattle.ring_claims.specs.Serves.{Serves}
use Rattle.ring_claims.specs.Held.{later}
use Rattle.tasks.specs.declared.set.Task.{Task}
use Rattle.tasks.specs.declared.set.TaskSet.{TaskSet}
use Rattle.tasks.specs.Set.{most_tasks, members, interrupts_in, zero_task, zero_interrupt}
use Rattle.taskrows.specs.Rows.{board_row, range_row, interrupt_row}
use Rattle.taskask.specs.Ask.{ask_row}
use Rattle.plan.specs.declared.plan.Plan.{Plan}
use Rattle.planner.specs.declared.PlanAnswer.{PlanAnswer}
use Rattle.whoruns.specs.declared.WhoAnswer.{WhoAnswer}
use Rattle.doespass.specs.declared.PassAnswer.{PassAnswer}
use Rattle.setfigures.specs.Figures.{set_figures}
use Rattle.setfigures.specs.Board.{set_board}
use Rattle.tightrows.specs.Rows.{slot_row, tight_row}
use Rattle.rows.specs.Rows.{horizon_row}
use Rattle.alonerow.specs.Alone.{alone_row}
use Rattle.plan.specs.Plan.{zero_plan, server_at, reserves_in}
use Rattle.layout.specs.Layout.{ring_start}
use Rattle.layout.specs.Made.{plan_with, plan_made}
use Rattle.planner.specs.Planner.{Clear, needed, full_row, plan_of}
use Rattle.planagree.specs.Agrees.{SamePlan}
use Rattle.plancheck.specs.Makes.{makes}
use Rattle.planprocessor.specs.Standing.{is_processor}
use Rattle.whoruns.specs.WhoRuns.{who_runs}
use Rattle.named.specs.Named.{allowed, is_server}
use Rattle.doespass.specs.DoesPass.{does_pass}

-- ---- each refusal exactly when its row says

-- the rows of the planner
pub data PlannerRow : Type 0 where
  ASK BOARD RANGE SLOT TIGHT HORIZON ALONE FULL : PlannerRow

-- the order in which they are tried: 11 first, then 5 to 9, 13 and 10
abbrev pub turn : PlannerRow → ℕ
turn ASK = 0
turn BOARD = 1
turn RANGE = 2
turn SLOT = 3
turn TIGHT = 4
turn HORIZON = 5
turn ALONE = 6
turn FULL = 7

-- the refusal of a row with place k; those whose place is 0 have no other
abbrev pub refusal_of : PlannerRow → ℕ → Refusal
refusal_of ASK k = Ask
refusal_of BOARD k = Board
refusal_of RANGE k = Range k
refusal_of SLOT k = Slot k
refusal_of TIGHT k = Tight k
refusal_of HORIZON k = Horizon
refusal_of ALONE k = Alone k
refusal_of FULL k = Full k

-- the k-th of a list, from 1, breaks a row and none before it does
pub record FirstBreaks {A : Type 0} (none : A) (row : A → Bool) (xs : List A) (k : ℕ) : Type 0 where
  pub counted : 1 ≤ k
  pub within : k ≤ length xs
  pub holds : row (get_or xs (k - 1) none) ≡ true
  pub earlier : (j : ℕ) → 1 ≤ j → j < k → row (get_or xs (j - 1) none) ≡ false

-- none of a list breaks a row
abbrev pub NoneBreaks : {A : Type 0} (none : A) (row : A → Bool) (xs : List A) → Type 0
NoneBreaks none row xs = (j : ℕ) → 1 ≤ j → j ≤ length xs → row (get_or xs (j - 1) none) ≡ false

-- the first task, or the first interrupt
abbrev pub FirstTask : (row : Task → Bool) → TaskSet → (k : ℕ) → Type 0
FirstTask row set k = FirstBreaks zero_task row (members set) k

abbrev pub NoTask : (row : Task → Bool) → TaskSet → Type 0
NoTask row set = NoneBreaks zero_task row (members set)

abbrev pub FirstInterrupt : TaskSet → (k : ℕ) → Type 0
FirstInterrupt set k = FirstBreaks zero_interrupt (interrupt_row set.header.processors) (interrupts_in set) k

abbrev pub NoInterrupt : TaskSet → Type 0
NoInterrupt set = NoneBreaks zero_interrupt (interrupt_row set.header.processors) (interrupts_in set)

-- RANGE is broken first by task k; or by no task, and first by the interrupt whose place is k: 64 and its position
abbrev pub RangeAt : TaskSet → (k : ℕ) → Type 0
RangeAt set k = FirstTask range_row set k ⊎ (NoTask range_row set × ((i : ℕ) × (k ≡ most_tasks + i) × FirstInterrupt set i))

-- a row holds with place k, where it has a place: the first task or interrupt that breaks it, or the sum of processors
abbrev pub HoldsAt : PlannerRow → TaskSet → ℕ → Type 0
HoldsAt ASK set k = ask_row set ≡ true
HoldsAt BOARD set k = board_row set.header ≡ true
HoldsAt RANGE set k = RangeAt set k
HoldsAt SLOT set k = FirstTask (slot_row set.header) set k
HoldsAt TIGHT set k = FirstTask (tight_row set.header) set k
HoldsAt HORIZON set k = horizon_row set ≡ true
HoldsAt ALONE set k = FirstTask (alone_row set) set k
HoldsAt FULL set k = (full_row set ≡ true) × (k ≡ needed set)

-- a row does not hold
abbrev pub NotHeld : PlannerRow → TaskSet → Type 0
NotHeld ASK set = ask_row set ≡ false
NotHeld BOARD set = board_row set.header ≡ false
NotHeld RANGE set = NoTask range_row set × NoInterrupt set
NotHeld SLOT set = NoTask (slot_row set.header) set
NotHeld TIGHT set = NoTask (tight_row set.header) set
NotHeld HORIZON set = horizon_row set ≡ false
NotHeld ALONE set = NoTask (alone_row set) set
NotHeld FULL set = full_row set ≡ false

-- a row holds with place k, and no row before it does
pub record FirstHolds (row : PlannerRow) (set : TaskSet) (k : ℕ) : Type 0 where
  pub holds : HoldsAt row set k
  pub earlier : (other : PlannerRow) → turn other < turn row → NotHeld other set

-- The planner refuses by a row with a place exactly when that row holds there and no row before it does.
abbrev pub PlanExactly : Type 0
PlanExactly =
    (row : PlannerRow) (set : TaskSet) (k : ℕ) → ((plan_of set).outcome ≡ Err (refusal_of row k)) ↔ FirstHolds row set k

-- It gives a plan exactly when no row holds, and refuses by no other row.
abbrev pub PlanDone : Type 0
PlanDone = (set : TaskSet) → ((plan_of set).outcome ≡ Ok tt) ↔ ((row : PlannerRow) → NotHeld row set)

abbrev pub PlanOnly : Type 0
PlanOnly =
    (set : TaskSet) (r : Refusal) → (plan_of set).outcome ≡ Err r → (row : PlannerRow) × (k : ℕ) × (r ≡ refusal_of row k)

-- The plan is the set's own where the planner is done, and the all-zero plan where it refuses.
pub record PlanGiven (set : TaskSet) : Type 0 where
  pub made : (plan_of set).outcome ≡ Ok tt → (plan_of set).plan ≡ plan_made set
  pub zero : (r : Refusal) → (plan_of set).outcome ≡ Err r → (plan_of set).plan ≡ zero_plan

-- ---- a task that fails alone

-- task k alone in a server, from 1
abbrev pub alone_in : TaskSet → (k : ℕ) → List Figures
alone_in set k = figures_of set.header (get_or (members set) (k - 1) zero_task) ∷ []

-- with a whole processor its demand, the interrupts' among it, exceeds the supply at some length
abbrev pub FailsAlone : TaskSet → (k : ℕ) → Type 0
FailsAlone set k =
    (t : ℕ) × (1 ≤ t) ×
    (supply set.header.slot (server_loss set.header (alone_in set k)) set.header.slot t < server_demand (set_board set) (alone_in set k) t)

-- row 11 and rows 5 to 9 are clear, task k fails alone, and each task before it passes alone at every length
pub record FirstAlone (set : TaskSet) (k : ℕ) : Type 0 where
  pub clear : Clear set
  pub counted : 1 ≤ k
  pub within : k ≤ length (members set)
  pub fails : FailsAlone set k
  pub earlier : (j : ℕ) → 1 ≤ j → j < k → PassesWhole (set_board set) (alone_in set j)

-- A set is refused by 13 with place k exactly then. Whatever the placement would have been: no placement of its tasks fits.
pub record AloneExactly : Type 0 where
  pub refused : (set : TaskSet) (k : ℕ) → length set.tasks ≡ most_tasks → ((plan_of set).outcome ≡ Err (Alone k)) ↔ FirstAlone set k
  pub nowhere : (set : TaskSet) (k : ℕ) → length set.tasks ≡ most_tasks → FirstAlone set k → (placement : List ℕ) →
      Fitting (set_board set) (set_figures set) placement → ⊥

-- A set without interrupts is never refused by 13.
abbrev pub NeverAlone : Type 0
NeverAlone = (set : TaskSet) (k : ℕ) → length set.tasks ≡ most_tasks → set.interrupts.count ≡ 0 → (plan_of set).outcome ≡ Err (Alone k) → ⊥

-- ---- the contracts determine the answers

-- Two answers that satisfy a contract coincide.
pub record PlanDetermined : Type 0 where
  pub planner : (set : TaskSet) (a b : PlanAnswer) → a ≡ plan_of set → b ≡ plan_of set → a ≡ b
  pub check : (set : TaskSet) (plan : Plan) (a b : Bool) → a ≡ makes set plan → b ≡ makes set plan → a ≡ b
  pub who : (set : TaskSet) (plan : Plan) (p : ℕ) (x : Tick) (a b : WhoAnswer) → a ≡ who_runs set plan p x → b ≡ who_runs set plan p x → a ≡ b
  pub pass : (set : TaskSet) (plan : Plan) (q R : ℕ) (a b : PassAnswer) → a ≡ does_pass set plan q R → b ≡ does_pass set plan q R → a ≡ b

-- ---- unused room is not looked at

-- two sets that differ in unused room alone
pub record SameSet (a b : TaskSet) : Type 0 where
  pub header : a.header ≡ b.header
  pub count : a.count ≡ b.count
  pub tasks : members a ≡ members b
  pub interrupt_count_lem : a.interrupts.count ≡ b.interrupts.count
  pub interrupts : interrupts_in a ≡ interrupts_in b

-- they get the same answers
pub record SetRoomIgnored (a b : TaskSet) : Type 0 where
  pub planner : plan_of a ≡ plan_of b
  pub check : (plan : Plan) → makes a plan ≡ makes b plan
  pub who : (plan : Plan) (p : ℕ) (x : Tick) → who_runs a plan p x ≡ who_runs b plan p x
  pub pass : (plan : Plan) (q R : ℕ) → does_pass a plan q R ≡ does_pass b plan q R

pub record PlanRoomIgnored (set : TaskSet) (a b : Plan) : Type 0 where
  pub check : makes set a ≡ makes set b
  pub who : (p : ℕ) (x : Tick) → who_runs set a p x ≡ who_runs set b p x
  pub pass : (q R : ℕ) → does_pass set a q R ≡ does_pass set b q R

pub record RoomIgnored : Type 0 where
  pub of_sets : (a b : TaskSet) → SameSet a b → SetRoomIgnored a b
  pub of_plans : (set : TaskSet) (a b : Plan) → SamePlan set.count a b → PlanRoomIgnored set a b

-- The planner makes its own plan, and no plan that differs from it in what is used.
pub record MakesOwn (set : TaskSet) : Type 0 where
  pub own : (plan_of set).outcome ≡ Ok tt → makes set (plan_of set).plan ≡ true
  pub other : (plan : Plan) → makes set plan ≡ true → ((plan_of set).outcome ≡ Ok tt) × SamePlan set.count plan (plan_of set).plan

-- ---- what a plan of a fitting placement is, and a checked plan

-- the server of task k; tasks count from 1
abbrev pub server_of_task : Plan → (k : ℕ) → ℕ
server_of_task plan k = get_or plan.placement (k - 1) 0

-- the members of server q: those that the plan's own figures name
abbrev pub members_in : TaskSet → Plan → (q : ℕ) → List Figures
members_in set plan q = chosen (set_figures set) (take set.count plan.placement) q

-- every task is in exactly one server, and no server is empty
pub record PlacedOnce (set : TaskSet) (plan : Plan) : Type 0 where
  pub there : (k : ℕ) → 1 ≤ k → k ≤ set.count → (1 ≤ server_of_task plan k) × (server_of_task plan k ≤ plan.servers)
  pub none_empty : (q : ℕ) → 1 ≤ q → q ≤ plan.servers → (k : ℕ) × (1 ≤ k) × (k ≤ set.count) × (server_of_task plan k ≡ q)

-- every server passes with R = S, and its reserve is the smallest allowed one with which it passes
pub record Reserved (set : TaskSet) (plan : Plan) : Type 0 where
  pub whole : (q : ℕ) → 1 ≤ q → q ≤ plan.servers → PassesWhole (set_board set) (members_in set plan q)
  pub smallest : (q : ℕ) → 1 ≤ q → q ≤ plan.servers →
      Smallest (server_demand (set_board set) (members_in set plan q)) set.header.slot (server_loss set.header (members_in set plan q)) (server_at plan q).reserve

-- each server's record says what the plan's figures do: the places of its tasks, where it stands on the ring, and the cache cost
-- that it is charged with, the largest among its tasks
pub record Recorded (set : TaskSet) (plan : Plan) : Type 0 where
  pub places : (q : ℕ) → 1 ≤ q → q ≤ plan.servers →
      take (server_at plan q).count (server_at plan q).places ≡ places_in (take set.count plan.placement) q
  pub start : (q : ℕ) → 1 ≤ q → q ≤ plan.servers → (server_at plan q).start.0 ≡ ring_start set.header.slot (reserves_in plan) q
  pub cache : (q : ℕ) → 1 ≤ q → q ≤ plan.servers → (server_at plan q).cache ≡ cache_of (members_in set plan q)

-- the processors are those that the reserves need
pub record Needs (set : TaskSet) (plan : Plan) : Type 0 where
  pub ring : plan.ring ≡ ring_processors set.header.slot (reserves_in plan)
  pub whole : plan.whole ≡ wholes set.header.slot (reserves_in plan)

-- what a plan of a fitting placement is, in its own figures
pub record FittingPlan (set : TaskSet) (plan : Plan) : Type 0 where
  pub placed : PlacedOnce set plan
  pub reserved : Reserved set plan
  pub recorded : Recorded set plan
  pub needs : Needs set plan

-- Whoever placed the tasks: the plan of any fitting placement is all of this, where row 11 and rows 5 to 9 are clear. A set has
-- room for most_tasks tasks, by its type.
abbrev pub PlanFitting : Type 0
PlanFitting =
    (set : TaskSet) (placement : List ℕ) → length set.tasks ≡ most_tasks → Clear set → Fitting (set_board set) (set_figures set) placement →
    FittingPlan set (plan_with set placement)

-- the processors are those that the reserves need, and no more than the board has
pub record OnBoard (set : TaskSet) (plan : Plan) : Type 0 where
  pub needs : Needs set plan
  pub within : plan.ring + plan.whole ≤ set.header.processors

pub record CheckedPlan (set : TaskSet) (plan : Plan) : Type 0 where
  pub placed : PlacedOnce set plan
  pub reserved : Reserved set plan
  pub recorded : Recorded set plan
  pub on_board : OnBoard set plan

-- A plan that the planner gives, or that is handed in and checked, is all of this, and has room on the board.
abbrev pub PlanChecked : Type 0
PlanChecked =
    (set : TaskSet) (plan : Plan) → length set.tasks ≡ most_tasks → makes set plan ≡ true → CheckedPlan set plan

-- ---- what the questions answer

-- who runs: the server that the processor serves, or 0; the ticks left, this one included, and so on from tick to tick
pub record WhoTells (set : TaskSet) (plan : Plan) (p : ℕ) (x : Tick) : Type 0 where
  pub done : (who_runs set plan p x).outcome ≡ Ok tt
  pub names : (q : ℕ) → ((1 ≤ q) × ((who_runs set plan p x).server ≡ q)) ↔ Serves set.header.slot (reserves_in plan) p q x
  pub idle : ((who_runs set plan p x).server ≡ 0) ↔ ((q : ℕ) → Serves set.header.slot (reserves_in plan) p q x → ⊥)
  pub some : 1 ≤ (who_runs set plan p x).left
  pub on : (j : ℕ) → j < (who_runs set plan p x).left →
      who_runs set plan p (later x j) ≡ record { outcome = Ok tt; server = (who_runs set plan p x).server; left = (who_runs set plan p x).left - j }

abbrev pub WhoAnswers : Type 0
WhoAnswers =
    (set : TaskSet) (plan : Plan) (p : ℕ) (x : Tick) → length set.tasks ≡ most_tasks → makes set plan ≡ true → is_processor plan p ≡ true →
    WhoTells set plan p x

-- R is allowed by the entry loss of server q, in the plan's own figures
abbrev pub allowed_in : TaskSet → Plan → (q R : ℕ) → Bool
allowed_in set plan q R = allowed set.header.slot (server_loss set.header (members_in set plan q)) R

-- does it pass: yes, with the closest length, exactly when demand never exceeds supply; no exactly with the smallest failing length;
-- each with the demand and the supply there
pub record PassTells (set : TaskSet) (plan : Plan) (q R : ℕ) : Type 0 where
  pub done : (does_pass set plan q R).outcome ≡ Ok tt
  pub tells :
      VerdictTells (server_demand (set_board set) (members_in set plan q)) set.header.slot (server_loss set.header (members_in set plan q)) R
      (does_pass set plan q R).verdict

abbrev pub PassAnswers : Type 0
PassAnswers =
    (set : TaskSet) (plan : Plan) (q R : ℕ) → length set.tasks ≡ most_tasks → makes set plan ≡ true → is_server plan q ≡ true →
    allowed_in set plan q R ≡ true → PassTells set plan q R

-- Both answer 11, and zeros, where the plan is not the planner's of the set, or what is named is not there or not allowed.
pub record AsksElse : Type 0 where
  pub who : (set : TaskSet) (plan : Plan) (p : ℕ) (x : Tick) →
      (makes set plan ≡ false) ⊎ (is_processor plan p ≡ false) → who_runs set plan p x ≡ record { outcome = Err Ask; server = 0; left = 0 }
  pub pass : (set : TaskSet) (plan : Plan) (q R : ℕ) →
      (makes set plan ≡ false) ⊎ ((is_server plan q ≡ false) ⊎ (allowed_in set plan q R ≡ false)) →
      does_pass set plan q R ≡ record { outcome = Err Ask; verdict = Yes (record { length = 0; demand = 0; supply = 0 }) }

-- ---- row 11 of the questions, exactly

-- A question is refused by row 11 exactly where something fails, in the enum and by number and place; it is done exactly where
-- all holds, and no other refusal is given.
pub record AskExactly (outcome : Outcome) (fails holds : Type 0) : Type 0 where
  pub refused : (outcome ≡ Err Ask) ↔ fails
  pub numbered : ((r : Refusal) × (outcome ≡ Err r) × (number_of r ≡ 11) × (place_of r ≡ 0)) ↔ fails
  pub done : (outcome ≡ Ok tt) ↔ holds
  pub only : (r : Refusal) → outcome ≡ Err r → (r ≡ Ask) × (number_of r ≡ 11) × (place_of r ≡ 0)

-- Who runs: the planner does not make that plan of that set, or the processor is not there.
abbrev pub WhoExactly : Type 0
WhoExactly =
    (set : TaskSet) (plan : Plan) (p : ℕ) (x : Tick) →
    AskExactly (who_runs set plan p x).outcome
    ((makes set plan ≡ false) ⊎ (is_processor plan p ≡ false))
    ((makes set plan ≡ true) × (is_processor plan p ≡ true))

-- Does it pass: the planner does not make that plan of that set, the server is not there, or R is not allowed.
abbrev pub PassExactly : Type 0
PassExactly =
    (set : TaskSet) (plan : Plan) (q R : ℕ) →
    AskExactly (does_pass set plan q R).outcome
    ((makes set plan ≡ false) ⊎ ((is_server plan q ≡ false) ⊎ (allowed_in set plan q R ≡ false)))
    ((makes set plan ≡ true) × ((is_server plan q ≡ true) × (allowed_in set plan q R ≡ true)))
