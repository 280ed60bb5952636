-- A worked value, computed; the document's examples stand with the promises.
-- Assumes nothing.
use Rattle.std.specs.Prelude.{None}
use mathlib.Core.Path.{◌≡◌, refl}
use mathlib.Core.List.{[], ◌∷◌}
use Rattle.wholes.specs.Measure.{measure_in, common_measure}
use Rattle.wholes.specs.Multiple.{least_multiple, least_multiple_of}
use Rattle.charging.specs.Charging.{effective_deadline, effective_cost, entry_loss}
use Rattle.demand.specs.Demand.{jobs, demand}
use Rattle.demand.specs.Supply.{supply_past, supply}
use Rattle.search.specs.Search.{first_up_to, first_after}
use Rattle.interrupting.specs.Interrupts.{bound_to, interrupt_demand, greatest}
use Rattle.masking.specs.Masking.{soonest_of, soonest, latest, gain_at, gaining, gain_of, masked_demand}
use Rattle.verdict.specs.Verdict.{failing, own_horizon, first_failing, verdict_at, verdict_of, passing}
use Rattle.tasks.specs.declared.set.Header.{Header}
use Rattle.places.specs.Places.{chosen}
use Rattle.loads.specs.Charge.{cache_of, charged_in, server_loads, server_loss}
use Rattle.members.specs.Server.{uninterrupted, passes_with, fits}
use Rattle.servers.specs.Placement.{servers_in, place_by, join_by, placed_by, placement_by, placement_of}
use Rattle.packing.specs.Rules.{order_of, fit_of}
use Rattle.packing.specs.Turns.{insert, sorted, turns_of, server_at, in_file_order}
use Rattle.demand.specs.Load.{each}
use Rattle.members.specs.Server.{total_of}
use Rattle.joining.specs.Join.{join}
use Rattle.joining.specs.Fits.{preferred, best_up_to, fit_by}
use Rattle.taking.specs.Takes.{takes}

abbrev two_processors : Header
two_processors = record { processors = 2; slot = 10; relj = 0; relo = 0; ctswo = 0; resd = 0; cpmdo = 0; masked = None; rule = None }

-- a task that server 1 cannot take goes to 2, and a later one that it can take goes back to 1
pub goes_back :
    placement_of
    (uninterrupted two_processors)
    (record { cost = 6; deadline = 10; period = 10; cache = 0 } ∷ record { cost = 6; deadline = 10; period = 10; cache = 0 } ∷ record { cost = 4; deadline = 10; period = 10; cache = 0 } ∷ [])
    ≡ 1 ∷ 2 ∷ 1 ∷ []
unfolding placement_of placement_by order_of fit_of turns_of sorted insert in_file_order server_at each placed_by place_by join_by fit_by best_up_to preferred total_of join takes servers_in chosen fits passes_with server_loads server_loss cache_of charged_in effective_deadline effective_cost entry_loss passing verdict_of verdict_at first_failing first_up_to first_after failing own_horizon least_multiple_of least_multiple common_measure measure_in masked_demand gaining gain_of gain_at soonest soonest_of latest greatest interrupt_demand bound_to demand jobs supply supply_past
goes_back = refl
