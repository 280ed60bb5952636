-- Of a set that may be charged the rota of any fitting placement stands, whoever placed the tasks: what is claimed of every standing
-- rota (crate rotas), the note's demand 3, holds of it.
-- The proofs stand in proofs/Claims.antt, one for each claim.
use Rattle.std.specs.Prelude.{ℕ, ◌≤◌, ◌≡◌, List}
use Rattle.tasks.specs.declared.set.TaskSet.{TaskSet}
use Rattle.tasks.specs.Set.{most_tasks, most_interrupts, members}
use Rattle.tasks.specs.Search.{first_task}
use Rattle.servers.specs.Placement.{placement_of}
use Rattle.servers.specs.Fitting.{Fitting}
use Rattle.setfigures.specs.Figures.{set_figures}
use Rattle.setfigures.specs.Board.{set_board}
use Rattle.rows.specs.Rows.{Chargeable, RowsClear}
use Rattle.alonerow.specs.Alone.{alone_row}
use Rattle.rotas.specs.Rota.{Standing}
use Rattle.fitting_rotas.specs.Rota.{rota_of}

-- a set of no more than most_tasks tasks and most_interrupts interrupts whose rows 5 to 9 are clear may be charged
abbrev pub ClearCharged : Type 0
ClearCharged =
    (set : TaskSet) → set.count ≤ most_tasks → set.interrupts.count ≤ most_interrupts → RowsClear set → Chargeable set

-- the rota of a fitting placement stands
abbrev pub FittingStands : Type 0
FittingStands =
    (set : TaskSet) (placement : List ℕ) → Chargeable set → Fitting (set_board set) (set_figures set) placement → Standing (rota_of set placement)

-- the planner's own placement fits where row 13 is clear too
abbrev pub PlannerFits : Type 0
PlannerFits =
    (set : TaskSet) → Chargeable set → first_task (alone_row set) (members set) ≡ 0 →
    Fitting (set_board set) (set_figures set) (placement_of (set_board set) (set_figures set))

-- so its rota stands
abbrev pub PlannerStands : Type 0
PlannerStands =
    (set : TaskSet) → Chargeable set → first_task (alone_row set) (members set) ≡ 0 →
    Standing (rota_of set (placement_of (set_board set) (set_figures set)))
