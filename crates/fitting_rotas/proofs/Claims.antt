-- Each claim of specs/Claims.antt, proved.
-- Assumes nothing.
use Rattle.servers.specs.Placement.{placement_of}
use Rattle.servers.proofs.Claims as servers
use Rattle.setfigures.specs.Figures.{set_figures}
use Rattle.setfigures.specs.Board.{set_board}
use Rattle.rows.proofs.Clears.{set_board_lem, figures_members}
use Rattle.alonerow.proofs.AloneLaws.{alone_clear}
use Rattle.fitting_rotas.specs.Claims.{ClearCharged, FittingStands, PlannerFits, PlannerStands}
use Rattle.fitting_rotas.proofs.FittingLaws.{rota_stands}

pub clear_charged : ClearCharged
clear_charged set few few_interrupts clear =
    record {
      few = few;
      few_interrupts = few_interrupts;
      board = clear.board;
      range = clear.range;
      interrupts = clear.interrupts;
      tight = clear.tight;
    }

pub fitting_stands : FittingStands
fitting_stands set placement clear fitting = rota_stands set placement clear fitting

pub planner_fits : PlannerFits
planner_fits set clear alone =
    servers.planner_fits (set_board set) (set_figures set) (set_board_lem set clear) (figures_members set clear) (alone_clear set alone)

pub planner_stands : PlannerStands
planner_stands set clear alone = fitting_stands set (placement_of (set_board set) (set_figures set)) clear (planner_fits set clear alone)
