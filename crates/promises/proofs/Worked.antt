-- The promises have something to speak of: example D of document 01 is accepted, its server 1 has a whole processor, its server 2
-- stands on the ring. Computed from the definitions; assumes nothing.
use Rattle.std.specs.Prelude.{None}
use Prim.Native.Nat.{ℕ}
use mathlib.Core.Path.{◌≡◌, refl, sym, subst}
use mathlib.Core.List.{List, [], ◌∷◌}
use native.Mathlib.Omega.{arith}
use Rattle.wholes.specs.Ceiling.{ceiling_of}
use Rattle.wholes.specs.Measure.{measure_in, common_measure}
use Rattle.wholes.specs.Multiple.{least_multiple, least_multiple_of}
use Rattle.charging.specs.Charging.{effective_deadline, effective_cost, entry_loss}
use Rattle.demand.specs.Load.{each}
use Rattle.demand.specs.Demand.{jobs, demand}
use Rattle.demand.specs.Supply.{supply_past, supply}
use Rattle.search.specs.Search.{first_up_to, first_after}
use Rattle.masking.specs.Masking.{soonest_of, soonest, latest, gain_at, gaining, gain_of, masked_demand}
use Rattle.verdict.specs.Verdict.{failing, own_horizon, first_failing, verdict_at, verdict_of, passing}
use Rattle.verdict.specs.Reserve.{enough, smallest_reserve}
use Rattle.places.specs.Padded.{up_to}
use Rattle.places.specs.Places.{chosen}
use Rattle.loads.specs.Charge.{cache_of, charged_in, server_loads, server_loss}
use Rattle.members.specs.Server.{passes_with, fits, reserve_for, total_of}
use Rattle.servers.specs.Placement.{servers_in, place_by, join_by, placement_of, placed_by, placement_by}
use Rattle.packing.specs.Rules.{order_of, fit_of}
use Rattle.packing.specs.Turns.{insert, sorted, turns_of, server_at, in_file_order}
use Rattle.joining.specs.Fits.{preferred, best_up_to, fit_by}
use Rattle.joining.specs.Join.{join}
use Rattle.taking.specs.Takes.{takes}
use Rattle.sizing.specs.Reserve.{reserves_of}
use Rattle.reserves.specs.Reserves.{ring_ticks, wholes}
use Rattle.ring_claims.specs.Serves.{RingServer, WholeProcessor}
use Rattle.tasks.specs.declared.set.Task.{Task}
use Rattle.tasks.specs.declared.set.TaskSet.{TaskSet}
use Rattle.tasks.specs.Set.{set_of, interrupts_with}
use Rattle.tasks.specs.Search.{some, first_from}
use Rattle.frames.specs.Table.{widths_of}
use Rattle.framesizes.specs.Overflow.{line_overflows, some_too_large}
use Rattle.taskask.specs.Ask.{count_row, twice_row, header_overflows, task_overflows, optional_overflows, interrupt_overflows, ask_row}
use Rattle.taskrows.specs.Rows.{board_row, range_row, interrupt_row, figures_outcome}
use Rattle.setfigures.specs.Figures.{set_figures}
use Rattle.setfigures.specs.Board.{set_interrupts}
use Rattle.interrupting.specs.Interrupts.{bound_to, interrupt_demand, greatest}
use Rattle.byprocessor.specs.Interrupts.{on_processor, by_processor}
use Rattle.alonerow.specs.Alone.{alone_row}
use Rattle.tightrows.specs.Rows.{slot_row, tight_row}
use Rattle.rows.specs.Rows.{horizon_of, horizon_row, charged_outcome}
use Rattle.layout.specs.Made.{reserves_with, set_placement, set_reserves}
use Rattle.planner.specs.Planner.{needed, full_row, plan_outcome, plan_of}
use Rattle.fitting_rotas.specs.Rota.{rota_of}
use Rattle.promises.specs.Claims.{Accepted}

abbrev task : (id C : ℕ) → Task
task id C = record { id = id; cost = C; deadline = 10; period = 10; cache = None }

-- D: S 10, tasks 5/10/10, 5/10/10, 1/10/10
abbrev pub set_d : TaskSet
set_d = set_of (record { processors = 64; slot = 10; relj = 0; relo = 0; ctswo = 0; resd = 0; cpmdo = 0; masked = None; rule = None }) (task 1 5 ∷ task 2 5 ∷ task 3 1 ∷ []) []

-- the reserves of D's rota
abbrev reserves_d : List ℕ
reserves_d = (rota_of set_d (set_placement set_d)).reserves

-- what the promises ask, met by D
pub record WorkedD : Type 0 where
  pub accepted : Accepted set_d
  pub reserves : reserves_d ≡ 10 ∷ 1 ∷ []
  pub whole : WholeProcessor 10 reserves_d 1
  pub ring : RingServer 10 reserves_d 2

-- each by computing
accepted_D : Accepted set_d
unfolding set_of interrupts_with plan_of plan_outcome ask_row count_row interrupt_overflows interrupt_row alone_row set_interrupts by_processor on_processor greatest interrupt_demand bound_to twice_row some first_from board_row range_row figures_outcome header_overflows task_overflows optional_overflows line_overflows some_too_large widths_of charged_outcome slot_row tight_row horizon_row horizon_of set_reserves needed full_row chosen cache_of charged_in server_loads server_loss passes_with fits reserve_for servers_in takes join place_by join_by placement_of placement_by order_of fit_of turns_of sorted insert in_file_order server_at each placed_by fit_by best_up_to preferred total_of reserves_of up_to set_figures reserves_with set_placement smallest_reserve enough passing verdict_of verdict_at first_failing first_up_to first_after failing own_horizon least_multiple_of least_multiple common_measure measure_in masked_demand gaining gain_of gain_at soonest soonest_of latest demand jobs supply supply_past effective_deadline effective_cost entry_loss ceiling_of ring_ticks wholes
accepted_D = refl

reserves_D : reserves_d ≡ 10 ∷ 1 ∷ []
unfolding set_of interrupts_with set_interrupts by_processor on_processor greatest interrupt_demand bound_to chosen cache_of charged_in server_loads server_loss passes_with fits reserve_for servers_in takes join place_by join_by placement_of placement_by order_of fit_of turns_of sorted insert in_file_order server_at each placed_by fit_by best_up_to preferred total_of reserves_of up_to set_figures reserves_with set_placement smallest_reserve enough passing verdict_of verdict_at first_failing first_up_to first_after failing own_horizon least_multiple_of least_multiple common_measure measure_in masked_demand gaining gain_of gain_at soonest soonest_of latest demand jobs supply supply_past effective_deadline effective_cost entry_loss
reserves_D = refl

pub worked_D : WorkedD
worked_D = record {
  accepted = accepted_D;
  reserves = reserves_D;
  whole = subst (λ (rs : List ℕ). WholeProcessor 10 rs 1) (sym reserves_D) (record { some = omega arith; there = omega arith; whole = refl });
  ring = subst (λ (rs : List ℕ). RingServer 10 rs 2) (sym reserves_D) (record { some = omega arith; there = omega arith; ring = omega arith });
}
