-- What holds of every accepted plan: the rota that it prints stands. So what is claimed of every standing rota (crate rotas), the
-- note's demand 3, is claimed of the plan's figures. The proofs stand in proofs/Claims.antt, one for each claim.
use Rattle.std.specs.Prelude.{ℕ, ◌+◌, ◌≤◌, ◌≡◌, true, List, length, Ok}
use Rattle.tasks.specs.declared.set.TaskSet.{TaskSet}
use Rattle.tasks.specs.Set.{most_tasks}
use Rattle.ring.specs.Who.{who_of}
use Rattle.ring_claims.specs.Rota.{unrolled}
use Rattle.servers.specs.Fitting.{Fitting}
use Rattle.setfigures.specs.Figures.{set_figures}
use Rattle.setfigures.specs.Board.{set_board}
use Rattle.plan.specs.declared.plan.Plan.{Plan}
use Rattle.plan.specs.Plan.{reserves_in}
use Rattle.layout.specs.Made.{plan_with, set_placement}
use Rattle.planner.specs.Planner.{plan_of}
use Rattle.plancheck.specs.Makes.{makes}
use Rattle.rotas.specs.Rota.{Standing}
use Rattle.fitting_rotas.specs.Rota.{rota_of}
use Rattle.promises.specs.Prints.{PrintsRota, printed_of}

-- the plan of a set with any placement prints the rota of that placement
abbrev pub PlanPrints : Type 0
PlanPrints = (set : TaskSet) (placement : List ℕ) → PrintsRota (rota_of set placement) placement (plan_with set placement)

-- the planner gives this set a plan
abbrev pub Accepted : TaskSet → Type 0
Accepted set = (plan_of set).outcome ≡ Ok tt

-- its placement fits
abbrev pub AcceptedFits : Type 0
AcceptedFits = (set : TaskSet) → Accepted set → Fitting (set_board set) (set_figures set) (set_placement set)

-- its rota stands
abbrev pub AcceptedStands : Type 0
AcceptedStands = (set : TaskSet) → Accepted set → Standing (rota_of set (set_placement set))

-- and a plan that the planner makes of a set, its own or one handed in, prints this rota.
-- A set has room for most_tasks tasks, by its type.
abbrev pub PlanIsRota : Type 0
PlanIsRota =
    (set : TaskSet) (plan : Plan) → length set.tasks ≡ most_tasks → makes set plan ≡ true →
    Accepted set × PrintsRota (rota_of set (set_placement set)) (set_placement set) plan

-- processor p at tick x, read off the printed lines alone: the server and the ticks left that the rota gives, and that the question
-- answers from the plan's own slot and reserves
pub record UnrolledRota (set : TaskSet) (plan : Plan) (mark p x : ℕ) : Type 0 where
  pub rota : unrolled (printed_of mark plan) p x ≡ who_of (rota_of set (set_placement set)).slot (rota_of set (set_placement set)).reserves p (record { 0 = x })
  pub question : unrolled (printed_of mark plan) p x ≡ who_of plan.slot (reserves_in plan) p (record { 0 = x })

-- so whoever has the printed plan of a set, and nothing else, has its rota: on every processor, at every tick of all time.
-- Whatever the mark of a whole processor is, it is not read.
abbrev pub PrintedRota : Type 0
PrintedRota =
    (set : TaskSet) (plan : Plan) (mark p x : ℕ) → length set.tasks ≡ most_tasks → makes set plan ≡ true → 1 ≤ p → p ≤ plan.ring + plan.whole →
    UnrolledRota set plan mark p x
