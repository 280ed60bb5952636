-- Planning a set, and the two questions, as they were before a request. The members of a server were charged with its cache cost, and so
-- was its entry loss.
use Rattle.std.specs.Prelude.{ℕ, ◌+◌, List, [], ◌∷◌, ◌++◌, map, Bool, not, cond, ◌&&◌, ◌||◌, leb, ltb}
use Rattle.refusals.specs.declared.Refusal.TheVariants.{Slot, Tight, Horizon, Full, Ask, Alone}
use Rattle.refusals.specs.Refused.{Outcome}
use Rattle.refusals.specs.First.{first_of, when}
use Rattle.wholes.specs.Multiple.{least_multiple_of}
use Rattle.charging.specs.Charging.{entry_loss}
use Rattle.demand.specs.Load.{Load}
use Rattle.interrupting.specs.Interrupts.{Bound, greatest}
use Rattle.verdict.specs.Verdict.{own_horizon, passing, verdict_of}
use Rattle.verdict.specs.Reserve.{smallest_reserve}
use Rattle.verdict.specs.declared.answer.Verdict.{Verdict}
use Rattle.tasks.specs.declared.set.Header.{Header}
use Rattle.tasks.specs.declared.set.Task.{Task}
use Rattle.tasks.specs.declared.set.TaskSet.{TaskSet}
use Rattle.tasks.specs.Set.{members, interrupts_in, longest_horizon}
use Rattle.tasks.specs.Search.{first_task, at_task}
use Rattle.reserves.specs.Reserves.{processors_of}
use Rattle.ring.specs.declared.clock.Tick.{Tick}
use Rattle.ring.specs.Who.{who_of}
use Rattle.places.specs.Padded.{up_to}
use Rattle.places.specs.Places.{chosen}
use Rattle.loads.specs.Charge.{charged_in}
use Rattle.loads.specs.Figures.{Figures, figures_of}
use Rattle.joining.specs.Join.{first_fit, join}
use Rattle.servers.specs.Placement.{servers_in, Step, place_by}
use Rattle.byprocessor.specs.Interrupts.{by_processor}
use Rattle.setfigures.specs.Figures.{set_figures}
use Rattle.tightrows.specs.Rows.{slot_row}
use Rattle.plan.specs.declared.plan.Plan.{Plan}
use Rattle.layout.specs.Layout.{laid_out}
use Rattle.planner.specs.declared.PlanAnswer.{PlanAnswer}
use Rattle.planner.specs.Planner.{answer}
use Rattle.planagree.specs.Agrees.{agrees}
use Rattle.plancheck.specs.Makes.{is_done}
use Rattle.planprocessor.specs.Standing.{is_processor}
use Rattle.whoruns.specs.declared.WhoAnswer.{WhoAnswer}
use Rattle.whoruns.specs.WhoRuns.{who_answer, refused_who}
use Rattle.named.specs.Named.{allowed, is_server}
use Rattle.doespass.specs.declared.PassAnswer.{PassAnswer}
use Rattle.doespass.specs.DoesPass.{pass_answer, refused_pass}
use Rattle.before.specs.Earlier.{Earlier, known}
use Rattle.before.specs.Reading.{had_figures}

-- ---- a server

-- its loads and its entry loss
unfoldable pub had_loads : Earlier → Header → (members : List Figures) → List Load
had_loads e h members = map (charged_in h (e.cost h members)) members

unfoldable pub had_loss : Earlier → Header → (members : List Figures) → ℕ
had_loss e h members = entry_loss h.resd (e.cost h members)

-- the interrupts by processor, where there were any
unfoldable pub had_bounds : Earlier → TaskSet → List Bound
had_bounds e set = by_processor set.header.processors (known e (interrupts_in set))

-- the demand of a server of these members
abbrev pub had_demand : Earlier → TaskSet → (members : List Figures) → ℕ → ℕ
had_demand e set members t = e.demand set.header (had_loads e set.header members) t + greatest set.header.processors (had_bounds e set) t

-- the least common multiple of S and the periods of the members and the interrupts
abbrev pub own_had : Earlier → TaskSet → (members : List Figures) → ℕ
own_had e set members = own_horizon set.header.slot (had_loads e set.header members) (had_bounds e set)

-- it passes with R, its smallest reserve, and the whole answer
unfoldable pub had_passes : Earlier → TaskSet → (members : List Figures) → (R : ℕ) → Bool
had_passes e set members R = passing (had_demand e set members) (own_had e set members) set.header.slot (had_loss e set.header members) R

unfoldable pub had_reserve : Earlier → TaskSet → (members : List Figures) → ℕ
had_reserve e set members = smallest_reserve (had_demand e set members) (own_had e set members) set.header.slot (had_loss e set.header members)

unfoldable pub had_verdict : Earlier → TaskSet → (members : List Figures) → (R : ℕ) → Verdict
had_verdict e set members R = verdict_of (had_demand e set members) (own_had e set members) set.header.slot (had_loss e set.header members) R

-- ---- a set

-- each task in file order goes to the lowest-numbered server that passes with it and R = S, otherwise to a new one
unfoldable pub had_fit : Earlier → TaskSet → Step
had_fit e set done placement l =
    join first_fit (λ (q : ℕ). had_passes e set (chosen done placement q ++ (l ∷ [])) set.header.slot) 0 (servers_in placement)

unfoldable pub had_placement : Earlier → TaskSet → List ℕ
had_placement e set = place_by (had_fit e set) [] [] (set_figures set)

-- the members of server q
abbrev pub had_members : Earlier → TaskSet → (q : ℕ) → List Figures
had_members e set q = chosen (set_figures set) (had_placement e set) q

unfoldable pub had_reserves : Earlier → TaskSet → List ℕ
had_reserves e set = up_to (λ (q : ℕ). had_reserve e set (had_members e set q)) (servers_in (had_placement e set))

-- each server's cache cost
unfoldable pub had_caches : Earlier → TaskSet → List ℕ
had_caches e set = up_to (λ (q : ℕ). e.cost set.header (had_members e set q)) (servers_in (had_placement e set))

unfoldable pub had_made : Earlier → TaskSet → Plan
had_made e set = laid_out set.header.slot (had_caches e set) (had_placement e set) (had_reserves e set)

-- 8 TIGHT: a task has RelJ ≥ D or c > d
unfoldable pub had_tight : Earlier → Header → Task → Bool
had_tight e h t =
    let l = charged_in h (e.own h t) (figures_of h t) in
    leb t.deadline h.relj || ltb l.deadline l.cost

-- the horizon H: the least common multiple of S and every T of the tasks and the interrupts
unfoldable pub horizon_had : Earlier → TaskSet → ℕ
horizon_had e set =
    least_multiple_of set.header.slot (map (λ (t : Task). t.period) (members set) ++ map (λ (b : Bound). b.load.period) (had_bounds e set))

-- rows 5 to 9
unfoldable pub had_charged : Earlier → TaskSet → Outcome
had_charged e set =
    first_of (had_figures e set)
    (first_of (at_task Slot (first_task (slot_row set.header) (members set)))
    (first_of (at_task Tight (first_task (had_tight e set.header) (members set))) (when (ltb longest_horizon (horizon_had e set)) Horizon)))

-- 13 ALONE, where there were interrupts: a server of this task alone fails with a whole processor
unfoldable pub had_alone : Earlier → TaskSet → Task → Bool
had_alone e set t = e.interrupts && not (had_passes e set (figures_of set.header t ∷ []) set.header.slot)

unfoldable pub had_needed : Earlier → TaskSet → ℕ
had_needed e set = processors_of set.header.slot (had_reserves e set)

-- 11 first; then rows 5 to 9, 13, and 10
unfoldable pub had_outcome : Earlier → TaskSet → Outcome
had_outcome e set =
    first_of (when (e.asks set) Ask)
    (first_of (had_charged e set)
    (first_of (at_task Alone (first_task (had_alone e set) (members set)))
    (when (ltb set.header.processors (had_needed e set)) (Full (had_needed e set)))))

unfoldable pub had_plan : Earlier → TaskSet → PlanAnswer
had_plan e set = answer (had_outcome e set) (had_made e set)

-- ---- the questions

-- the planner makes this plan of this set
unfoldable pub had_makes : Earlier → TaskSet → Plan → Bool
had_makes e set plan = is_done (had_outcome e set) && agrees set.count plan (had_made e set)

-- who runs on processor p at tick x
unfoldable pub had_who : Earlier → TaskSet → Plan → (p : ℕ) → Tick → WhoAnswer
had_who e set plan p x =
    cond (had_makes e set plan && is_processor plan p) (who_answer (who_of set.header.slot (had_reserves e set) p x)) (refused_who Ask)

-- does server q pass with R
unfoldable pub had_pass : Earlier → TaskSet → Plan → (q R : ℕ) → PassAnswer
had_pass e set plan q R =
    cond
    (had_makes e set plan && (is_server plan q && allowed set.header.slot (had_loss e set.header (had_members e set q)) R))
    (pass_answer (had_verdict e set (had_members e set q) R))
    (refused_pass Ask)
