-- What a plan that the planner makes has: its rows have room for what they count.
-- Assumes nothing.
use Rattle.std.specs.Prelude.{Ok}
use Prim.Native.Nat.{◌≤◌}
use mathlib.Core.Path.{◌≡◌}
use mathlib.Core.Bool.{true}
use native.Mathlib.Nat.{min-le_left}
use native.Mathlib.Omega.{arith}
use lib.ListN.{length, length-take, length-map}
use borrow.Author.Tests.{ltb-false}
use Rattle.tasks.specs.declared.set.TaskSet.{TaskSet}
use Rattle.tasks.specs.Set.{members, most_tasks, most_processors}
use Rattle.taskrows.proofs.BoardLaws.{board_processors}
use Rattle.taskask.proofs.Carried.{ask_count, count_within}
use Rattle.servers.specs.Placement.{placement_of}
use Rattle.sizing.proofs.Claims.{reserves_count}
use Rattle.servers.proofs.Claims.{servers_few}
use Rattle.plan.specs.declared.plan.Plan.{Plan}
use Rattle.loads.specs.Figures.{figures_of}
use Rattle.setfigures.specs.Figures.{set_figures}
use Rattle.setfigures.specs.Board.{set_board}
use Rattle.layout.specs.Made.{plan_made, plan_with, reserves_with, set_placement}
use Rattle.layout.specs.Layout.{laid_out}
use Rattle.plancheck.specs.Makes.{makes}
use Rattle.planner.specs.Planner.{Clear, plan_outcome, needed, full_row}
use Rattle.planagree.proofs.AgreeLaws.{agree_same}
use Rattle.plancheck.proofs.Checked.{makes_done, makes_agrees}
use Rattle.rows.proofs.Clears.{charged_clear}
use Rattle.planner.proofs.Made.{outcome_clear, made_needs}
use Rattle.plantext.specs.Counts.{CountsFit}

module _ (set : TaskSet) (done : plan_outcome set ≡ Ok tt) where
  clear : Clear set
  clear = (outcome_clear set done).0.clear

  tasks_few : set.count ≤ most_tasks
  tasks_few = (count_within set (ask_count set clear.carried)).1

  boards_few : set.header.processors ≤ most_processors
  boards_few = board_processors set.header (charged_clear set clear.charged).board

  pub needed_few : needed set ≤ most_processors
  unfolding full_row
  needed_few = omega (arith, ltb-false set.header.processors (needed set) (outcome_clear set done).1, boards_few)

  figures_few : length (set_figures set) ≤ most_tasks
  unfolding set_figures
  figures_few = omega (arith, length-map (members set) (figures_of set.header), length-take set.count set.tasks, min-le_left set.count (length set.tasks), tasks_few)

  pub servers_few_made : (plan_made set).servers ≤ most_tasks
  unfolding plan_made plan_with laid_out reserves_with set_placement
  servers_few_made =
      let board = set_board set in
      let figures = set_figures set in
      omega (arith, reserves_count board figures (placement_of board figures), servers_few board figures, figures_few)

  -- the plan that the planner makes has room for what it counts
  pub made_counted : CountsFit set (plan_made set)
  made_counted = record { servers = servers_few_made; tasks = tasks_few; processors = omega (arith, made_needs set, needed_few) }

-- a plan that the planner makes of a set
module _ (set : TaskSet) (plan : Plan) (m : makes set plan ≡ true) where
  -- it has room for what it counts, as the one that the planner makes has
  pub makes_counted : CountsFit set plan
  makes_counted =
      let made = made_counted set (makes_done set plan m) in
      let same = agree_same plan (plan_made set) set.count (makes_agrees set plan m) in
      record {
        servers = omega (arith, same.servers, made.servers);
        tasks = made.tasks;
        processors = omega (arith, same.ring, same.whole, made.processors);
      }
