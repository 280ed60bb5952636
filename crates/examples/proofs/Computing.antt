-- The definitions between the bytes of a file and an answer, named once: a proof that says `unfolding computing` unfolds all of them.
-- docs/PROVING.md says how the names are found.
use Rattle.digits.specs.Digit.{legal, value_of, digit_of, all_legal}
use Rattle.digits.specs.Number.{number_from, hex}
use Rattle.frames.specs.Table.{kind_of, widths_of, sum}
use Rattle.frameread.specs.Line.{line, after, closed, formed, field_of}
use Rattle.laws.specs.Same.{same}
use Rattle.framewrite.specs.Line.{fields, line_of}
use Rattle.framesizes.specs.Overflow.{line_overflows, some_too_large}
use Rattle.framelines.specs.Lines.{joined}
use Rattle.tasks.specs.Set.{interrupts_with, set_of}
use Rattle.tasks.specs.Search.{some, first_from}
use Rattle.taskask.specs.Ask.{count_row, twice_row, header_overflows, task_overflows, optional_overflows, interrupt_overflows, ask_row}
use Rattle.taskrows.specs.Rows.{board_row, range_row, interrupt_row, figures_outcome}
use Rattle.refusals.specs.First.{till}
use Rattle.taskfile.specs.File.{past, among, line_row, order_row, count_line_row, twice_line_row, line_outcome, header_at, task_formed, task_kind, cache_at, task_at, interrupt_at, masked_at, rule_line, rule_at, file_header}
use Rattle.taskread.specs.Read.{file_set, read_outcome, read_of}
use Rattle.wholes.specs.Ceiling.{ceiling_of}
use Rattle.wholes.specs.Measure.{measure_in, common_measure}
use Rattle.wholes.specs.Multiple.{least_multiple, least_multiple_of}
use Rattle.charging.specs.Charging.{effective_deadline, effective_cost, entry_loss}
use Rattle.demand.specs.Load.{each}
use Rattle.demand.specs.Demand.{jobs, demand}
use Rattle.demand.specs.Passes.{fake}
use Rattle.demand.specs.Supply.{gap, supply_past, supply}
use Rattle.interrupting.specs.Interrupts.{bound_to, interrupt_demand, greatest}
use Rattle.masking.specs.Masking.{soonest_of, soonest, latest, gain_at, gaining, gain_of, masked_demand}
use Rattle.verdict.specs.Reserve.{enough, smallest_reserve}
use Rattle.search.specs.Search.{last_up_to, first_up_to, first_after, short}
use Rattle.steps.specs.Stepping.{steps}
use Rattle.slack.specs.Least.{lesser, least_up_to}
use Rattle.slack.specs.Slack.{slack}
use Rattle.verdict.specs.Verdict.{failing, own_horizon, first_failing, closest, reading_at, verdict_at, verdict_of, passing}
use Rattle.places.specs.Places.{places_from, chosen}
use Rattle.loads.specs.Charge.{cache_of, charged_in, server_loads, server_loss}
use Rattle.members.specs.Server.{passes_with, fits, reserve_for, verdict_for, total_of}
use Rattle.servers.specs.Placement.{servers_in, join_by, place_by, placement_of, caches_of, placed_by, placement_by}
use Rattle.packing.specs.Rules.{order_of, fit_of}
use Rattle.packing.specs.Turns.{insert, sorted, turns_of, server_at, in_file_order}
use Rattle.joining.specs.Fits.{preferred, best_up_to, fit_by}
use Rattle.joining.specs.Join.{join}
use Rattle.taking.specs.Takes.{takes}
use Rattle.sizing.specs.Reserve.{reserves_of}
use Rattle.ring.specs.Cover.{covers, coverer_up_to, stand_at}
use Rattle.ring.specs.Phase.{phase}
use Rattle.reserves.specs.Reserves.{ring_ticks, wholes}
use Rattle.reserves.specs.Whole.{whole_from}
use Rattle.ring.specs.Who.{who_of, first_reserve}
use Rattle.byprocessor.specs.Interrupts.{on_processor, by_processor}
use Rattle.setfigures.specs.Figures.{set_figures}
use Rattle.setfigures.specs.Board.{set_interrupts}
use Rattle.tightrows.specs.Rows.{slot_row, tight_row}
use Rattle.rows.specs.Rows.{horizon_of, horizon_row, charged_outcome}
use Rattle.alonerow.specs.Alone.{alone_row}
use Rattle.places.specs.Padded.{up_to}
use Rattle.layout.specs.Layout.{laid_out}
use Rattle.layout.specs.Made.{reserves_with, caches_with, plan_with, set_placement, set_reserves, plan_made}
use Rattle.planagree.specs.Agrees.{alike, same_figures, same_server, same_servers, same_processors, agrees}
use Rattle.plancheck.specs.Makes.{makes}
use Rattle.planner.specs.Planner.{needed, full_row, plan_outcome, plan_of}
use Rattle.planprocessor.specs.Standing.{is_processor}
use Rattle.whoruns.specs.WhoRuns.{who_runs}
use Rattle.named.specs.Named.{allowed, is_server}
use Rattle.doespass.specs.DoesPass.{does_pass}
use Rattle.planfigures.specs.Figures.{server_figures, placed_figures, processor_figures}
use Rattle.planlines.specs.Line.{plan_line, server_line, placed_line, processor_line, refusal_text}
use Rattle.plantext.specs.Text.{plan_text}
use Rattle.taskplan.specs.File.{planned_set, filed_of}
use Rattle.planfile.specs.Tool.{answered}
use Rattle.askfile.specs.OfFile.{who_in, pass_in}

unfoldable pub computing : Unit {0}
unfolding legal value_of digit_of all_legal number_from hex kind_of widths_of sum line after closed same formed field_of fields line_of interrupts_with set_of some first_from count_row twice_row board_row range_row interrupt_row figures_outcome header_overflows task_overflows optional_overflows interrupt_overflows line_overflows some_too_large ask_row past among line_row order_row count_line_row twice_line_row line_outcome till header_at task_formed task_kind cache_at task_at interrupt_at masked_at rule_line rule_at file_header file_set read_outcome read_of ceiling_of measure_in common_measure least_multiple least_multiple_of effective_deadline effective_cost entry_loss jobs demand bound_to interrupt_demand greatest soonest_of soonest latest gain_at gaining gain_of masked_demand fake gap supply_past supply enough smallest_reserve last_up_to first_up_to first_after short steps lesser least_up_to slack failing own_horizon first_failing closest reading_at verdict_at verdict_of passing places_from chosen cache_of charged_in server_loads server_loss passes_with fits reserve_for verdict_for servers_in takes join join_by place_by placement_of placement_by order_of fit_of turns_of sorted insert in_file_order server_at each placed_by fit_by best_up_to preferred total_of caches_of reserves_of covers coverer_up_to stand_at phase ring_ticks wholes whole_from who_of first_reserve on_processor by_processor set_interrupts set_figures slot_row tight_row horizon_of horizon_row charged_outcome alone_row up_to laid_out reserves_with caches_with plan_with set_placement set_reserves plan_made alike same_figures same_server same_servers same_processors agrees needed full_row plan_outcome plan_of makes allowed is_processor is_server who_runs does_pass joined server_figures placed_figures processor_figures plan_line server_line placed_line processor_line plan_text refusal_text planned_set filed_of answered who_in pass_in
computing = tt
