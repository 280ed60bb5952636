-- Each claim of specs/Claims.antt, proved.
-- Assumes nothing.
use Prim.Native.Nat.{ℕ, ◌+◌, ◌≤◌}
use mathlib.Core.Path.{◌≡◌, sym, ap, subst, ◌∙◌}
use mathlib.Core.List.{List}
use Rattle.tasks.specs.declared.set.TaskSet.{TaskSet}
use Rattle.ring.specs.Who.{who_of}
use Rattle.ring_claims.specs.Slotted.{Slotted}
use Rattle.ring_claims.specs.Rota.{unrolled}
use Rattle.ring_claims.proofs.Claims.{rota_unrolled}
use Rattle.rotas.specs.Rota.{Rota}
use Rattle.rotas.proofs.Claims.{standing_slotted}
use Rattle.taskask.proofs.Carried.{count_within, interrupts_within, ask_count}
use Rattle.rows.specs.Rows.{Chargeable}
use Rattle.rows.proofs.Clears.{charged_clear}
use Rattle.plan.specs.declared.plan.Plan.{Plan}
use Rattle.plan.specs.Plan.{reserves_in}
use Rattle.layout.specs.Made.{reserves_with, caches_with, plan_with, set_placement, plan_made}
use Rattle.planner.specs.Planner.{Clear, Placeable}
use Rattle.planner.proofs.Made.{plan_outcome_lem, outcome_clear}
use Rattle.planagree.specs.Agrees.{SamePlan}
use Rattle.plancheck.proofs.Checked.{makes_done, same_made, placement_count}
use Rattle.fitting_rotas.specs.Rota.{rota_of}
use Rattle.fitting_rotas.proofs.Claims.{clear_charged, fitting_stands, planner_fits}
use Rattle.promises.specs.Claims.{PlanPrints, Accepted, AcceptedFits, AcceptedStands, PlanIsRota, PrintedRota}
use Rattle.promises.specs.Prints.{PrintsRota, printed_of}
use Rattle.promises.proofs.PrintLaws.{laid_prints, same_prints, lines_of}

pub plan_prints : PlanPrints
unfolding plan_with reserves_with
plan_prints set placement = laid_prints (rota_of set placement) placement (caches_with set placement)

-- the rows of an accepted set are clear
placeable : (set : TaskSet) → Accepted set → Placeable set
placeable set ok = (outcome_clear set (sym (plan_outcome_lem set) ∙ ok)).0

-- it may be charged
may_charge : (set : TaskSet) → Accepted set → Chargeable set
may_charge set ok =
    let clear : Clear set = (placeable set ok).clear in
    let counts = ask_count set clear.carried in
    clear_charged set (count_within set counts).1 (interrupts_within set counts) (charged_clear set clear.charged)

pub accepted_fits : AcceptedFits
unfolding set_placement
accepted_fits set ok = planner_fits set (may_charge set ok) (placeable set ok).alone

pub accepted_stands : AcceptedStands
accepted_stands set ok = fitting_stands set (set_placement set) (may_charge set ok) (accepted_fits set ok)

pub plan_is_rota : PlanIsRota
unfolding plan_made
plan_is_rota set plan full e =
    let clear : Clear set = (outcome_clear set (makes_done set plan e)).0.clear in
    let same = subst (λ (n : ℕ). SamePlan n plan (plan_made set)) (sym (placement_count set full plan clear)) (same_made set full plan e) in
    (plan_outcome_lem set ∙ makes_done set plan e, same_prints (rota_of set (set_placement set)) (set_placement set) same (plan_prints set (set_placement set)))

-- a plan prints the set's rota
abbrev Prints : TaskSet → Plan → Type 0
Prints set plan = PrintsRota (rota_of set (set_placement set)) (set_placement set) plan

-- the rota, read off the lines of a plan that prints it
read_off : (set : TaskSet) (plan : Plan) (mark p x : ℕ) → Accepted set → Prints set plan → 1 ≤ p → p ≤ plan.ring + plan.whole →
    unrolled (printed_of mark plan) p x ≡ who_of (rota_of set (set_placement set)).slot (rota_of set (set_placement set)).reserves p (record { 0 = x })
read_off set plan mark p x ok prints h l =
    let rota : Rota = rota_of set (set_placement set) in
    let stands : Slotted rota.slot rota.reserves = standing_slotted rota (accepted_stands set ok) in
    rota_unrolled (printed_of mark plan) rota.slot rota.reserves p x stands (lines_of rota (set_placement set) mark prints) h l

-- its own slot and reserves are the rota's
own_figures : (set : TaskSet) (plan : Plan) (p x : ℕ) → Prints set plan →
    who_of (rota_of set (set_placement set)).slot (rota_of set (set_placement set)).reserves p (record { 0 = x })
    ≡ who_of plan.slot (reserves_in plan) p (record { 0 = x })
own_figures set plan p x prints =
    ap (λ (S : ℕ). who_of S (rota_of set (set_placement set)).reserves p (record { 0 = x })) (sym prints.slot)
    ∙ ap (λ (rs : List ℕ). who_of plan.slot rs p (record { 0 = x })) (sym prints.reserves)

pub printed_rota : PrintedRota
printed_rota set plan mark p x full e h l =
    let made : Accepted set × Prints set plan = plan_is_rota set plan full e in
    let off = read_off set plan mark p x made.0 made.1 h l in
    record { rota = off; question = off ∙ own_figures set plan p x made.1 }
