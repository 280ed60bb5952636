-- A set is planned, and asked of, as in an earlier state, where it has no packing rule, its tasks have cache costs as they had then, it has
-- no interrupts unless there were any, and what loads ask and row 11 are what they were.
-- Assumes nothing.
use Rattle.std.specs.Prelude.{Err, Ok, Option}
use Prim.Native.Nat.{ℕ, ◌+◌, ◌≤◌}
use native.Mathlib.Omega.{arith}
use mathlib.Core.List.{List, [], ◌∷◌, ◌++◌, map}
use mathlib.Core.Bool.{Bool, true, false, not, cond, ◌&&◌, ◌||◌}
use mathlib.Core.Path.{◌≡◌, refl, sym, ◌∙◌, ap, ap₂, subst}
use lib.Dec.{leb, ltb}
use lib.ListN.{length, take, length-append}
use borrow.Author.Tests.{leb-true}
use Rattle.laws.proofs.Tests.{and_left, and_right}
use Rattle.refusals.specs.declared.Refusal.TheVariants.{Slot, Tight, Horizon, Full, Ask, Alone}
use Rattle.refusals.specs.Refused.{Outcome}
use Rattle.refusals.specs.First.{first_of, when}
use Rattle.wholes.specs.Multiple.{least_multiple_of}
use Rattle.demand.specs.Load.{Load, Every}
use Rattle.charging.specs.Charging.{entry_loss}
use Rattle.demand.proofs.Demand.{every_snoc}
use Rattle.interrupting.specs.Interrupts.{Bound, greatest}
use Rattle.masking.specs.Masking.{masked_demand}
use Rattle.verdict.specs.Verdict.{own_horizon, passing, verdict_of}
use Rattle.verdict.specs.Reserve.{smallest_reserve}
use Rattle.verdict.specs.declared.answer.Verdict.{Verdict}
use Rattle.tasks.specs.declared.set.Task.{Task}
use Rattle.tasks.specs.declared.set.TaskSet.{TaskSet}
use Rattle.tasks.specs.Set.{members, interrupts_in, zero_task, masked_ticks, given_or, cache_cost, longest_horizon}
use Rattle.tasks.specs.Search.{first_task, at_task}
use Rattle.tasks.proofs.FirstLaws.{none_first}
use Rattle.taskask.specs.Ask.{ask_row}
use Rattle.taskask.proofs.Carried.{count_within, interrupts_within, ask_count}
use Rattle.reserves.specs.Reserves.{processors_of}
use Rattle.ring.specs.declared.clock.Tick.{Tick}
use Rattle.ring.specs.Who.{who_of}
use Rattle.places.specs.Padded.{up_to}
use Rattle.places.specs.Places.{chosen}
use Rattle.places.proofs.PaddedLaws.{up_length}
use Rattle.places.proofs.PlacesLaws.{in_some}
use Rattle.loads.specs.Charge.{cache_of, charged_in, server_loads, server_loss}
use Rattle.loads.specs.Figures.{Figures, figures_of}
use Rattle.loads.proofs.ChargeLaws.{every_map}
use Rattle.members.specs.Server.{server_demand, server_horizon, passes_with, fits, reserve_for, verdict_for}
use Rattle.members.proofs.FiledLaws.{every_chosen}
use Rattle.taking.specs.Takes.{takes}
use Rattle.packing.specs.declared.Fit.TheVariants.{First}
use Rattle.joining.specs.Join.{first_fit, join}
use Rattle.joining.proofs.FitLaws.{join_first_fit}
use Rattle.servers.specs.Placement.{servers_in, room_in, join_by, placed_by, placement_by, placement_of, caches_of}
use Rattle.servers.specs.Fitting.{Parted}
use Rattle.servers.proofs.FittingLaws.{in_range, parted_more, fitting_none}
use Rattle.servers.proofs.PlacementLaws.{placed_keeps}
use Rattle.servers.proofs.Claims.{fit_takes_or_opens, first_in_file}
use Rattle.sizing.specs.Reserve.{reserves_of}
use Rattle.byprocessor.specs.Interrupts.{by_processor}
use Rattle.setfigures.specs.Figures.{set_figures}
use Rattle.setfigures.specs.Board.{set_interrupts, set_board}
use Rattle.tightrows.specs.Rows.{slot_row, tight_row}
use Rattle.rows.specs.Rows.{horizon_of, horizon_row, charged_outcome}
use Rattle.rows.proofs.Clears.{charged_clear}
use Rattle.alonerow.specs.Alone.{alone_row}
use Rattle.alonerow.proofs.AloneLaws.{none_alone}
use Rattle.plan.specs.declared.plan.Plan.{Plan}
use Rattle.layout.specs.Layout.{laid_out}
use Rattle.layout.specs.Made.{reserves_with, caches_with, plan_with, set_placement, set_reserves, plan_made}
use Rattle.planner.specs.Planner.{needed, full_row, plan_outcome, plan_of, answer}
use Rattle.planagree.specs.Agrees.{agrees}
use Rattle.planagree.proofs.AgreeLaws.{agree_same}
use Rattle.plancheck.specs.Makes.{is_done, makes}
use Rattle.plancheck.proofs.Checked.{makes_agrees}
use Rattle.planprocessor.specs.Standing.{is_processor}
use Rattle.whoruns.specs.WhoRuns.{who_answer, refused_who, who_runs}
use Rattle.named.specs.Named.{allowed, is_server}
use Rattle.planserver.specs.Members.{server_members, allowed_to}
use Rattle.doespass.specs.declared.PassAnswer.{PassAnswer}
use Rattle.doespass.specs.DoesPass.{pass_answer, refused_pass, does_pass}
use Rattle.before.specs.Earlier.{Earlier, known}
use Rattle.before.specs.Planning.{had_loads, had_loss, had_bounds, had_demand, own_had, had_passes, had_reserve, had_verdict, had_fit, had_placement, had_members, had_reserves, had_caches, had_made, had_tight, horizon_had, had_charged, had_alone, had_needed, had_outcome, had_plan, had_makes, had_who, had_pass}
use Rattle.before.specs.Claims.{Unruled, SetAsBefore}
use Rattle.before.proofs.ReadingLaws.{figures_same}
use Rattle.before.proofs.AlikeLaws.{first_same, ups_same, placed_same}

-- what planning goes by is what it was, for a set: its tasks have cache costs of a kind of which servers and tasks are charged as they were
pub record AsNow (Costs : Figures → Type 0) (e : Earlier) (set : TaskSet) : Type 0 where
  pub unruled : Unruled set
  pub costs : Every (λ (t : Task). Costs (figures_of set.header t)) (members set)
  pub cost : (ms : List Figures) → Every Costs ms → 1 ≤ length ms → cache_of ms ≡ e.cost set.header ms
  pub own : (t : Task) → Costs (figures_of set.header t) → cache_cost set.header t ≡ e.own set.header t
  pub interrupts : e.interrupts ≡ false → set.interrupts.count ≡ 0
  pub demand : (ls : List Load) (t : ℕ) → masked_demand (masked_ticks set.header) ls t ≡ e.demand set.header ls t
  pub ask : ask_row set ≡ e.asks set

-- without interrupts no task of a set whose rows are clear fails alone
fit_alone : (set : TaskSet) → set.interrupts.count ≡ 0 → ask_row set ≡ false → charged_outcome set ≡ Ok tt → first_task (alone_row set) (members set) ≡ 0
fit_alone set none carried charged =
    let clear = charged_clear set charged in
    none_alone set
    (record {
      few = (count_within set (ask_count set carried)).1;
      few_interrupts = interrupts_within set (ask_count set carried);
      board = clear.board;
      range = clear.range;
      interrupts = clear.interrupts;
      tight = clear.tight;
    })
    none

module _ (Costs : Figures → Type 0) (e : Earlier) (set : TaskSet) (same : AsNow Costs e set) where
  abbrev S : ℕ
  S = set.header.slot

  abbrev AllCost : List Figures → Type 0
  AllCost ms = Every Costs ms

  -- ---- the interrupts

  known_same : interrupts_in set ≡ known e (interrupts_in set)
  known_same = go e.interrupts refl
    where
      go : (b : Bool) → e.interrupts ≡ b → interrupts_in set ≡ cond b (interrupts_in set) []
      go true there = refl
      go false none = ap (λ (n : ℕ). take n set.interrupts.each) (same.interrupts none)

  bounds_same : set_interrupts set ≡ had_bounds e set
  unfolding set_interrupts had_bounds
  bounds_same = ap (by_processor set.header.processors) known_same

  -- ---- a server

  -- its loads and its entry loss
  loads_same : (ms : List Figures) → AllCost ms → server_loads set.header ms ≡ had_loads e set.header ms
  unfolding server_loads had_loads
  loads_same [] all = refl
  loads_same (f ∷ ms) all = ap (λ (cost : ℕ). map (charged_in set.header cost) (f ∷ ms)) (same.cost (f ∷ ms) all (omega arith))

  loss_same : (ms : List Figures) → AllCost ms → 1 ≤ length ms → server_loss set.header ms ≡ had_loss e set.header ms
  unfolding server_loss had_loss
  loss_same ms all some = ap (entry_loss set.header.resd) (same.cost ms all some)

  module _ (ms : List Figures) (all : AllCost ms) where
    demand_same : server_demand (set_board set) ms ≡ had_demand e set ms
    demand_same = λ i t. at t i
      where
        at : (t : ℕ) → server_demand (set_board set) ms t ≡ had_demand e set ms t
        at t =
            ap₂ (λ (ls : List Load) (bs : List Bound). masked_demand (masked_ticks set.header) ls t + greatest set.header.processors bs t)
            (loads_same ms all) bounds_same
            ∙ ap (λ (n : ℕ). n + greatest set.header.processors (had_bounds e set) t) (same.demand (had_loads e set.header ms) t)

    horizon_same : server_horizon (set_board set) ms ≡ own_had e set ms
    horizon_same = ap₂ (own_horizon S) (loads_same ms all) bounds_same

    module _ (some : 1 ≤ length ms) where
      passes_same : (R : ℕ) → passes_with (set_board set) ms R ≡ had_passes e set ms R
      unfolding passes_with had_passes
      passes_same R = λ i. passing (demand_same i) (horizon_same i) S (loss_same ms all some i) R

      reserve_same : reserve_for (set_board set) ms ≡ had_reserve e set ms
      unfolding reserve_for had_reserve
      reserve_same = λ i. smallest_reserve (demand_same i) (horizon_same i) S (loss_same ms all some i)

      verdict_same : (R : ℕ) → verdict_for (set_board set) ms R ≡ had_verdict e set ms R
      unfolding verdict_for had_verdict
      verdict_same R = λ i. verdict_of (demand_same i) (horizon_same i) S (loss_same ms all some i) R

  -- ---- placing: whoever comes is a member

  -- the file's horizon, in which rooms are reckoned; by first fit they don't count
  abbrev H : ℕ
  H = server_horizon (set_board set) (set_figures set)

  rooms_none : (done : List Figures) (placement : List ℕ) (l : Figures) →
      join_by First (set_board set) H done placement l ≡ join first_fit (takes (set_board set) done placement l) 0 (servers_in placement)
  unfolding join_by
  rooms_none done placement l = join_first_fit (room_in (set_board set) H done placement) (takes (set_board set) done placement l) 0 (servers_in placement)

  -- the servers that take a task are those that took it
  takes_same : (done : List Figures) (placement : List ℕ) (l : Figures) → AllCost done → Costs l →
      join first_fit (takes (set_board set) done placement l) 0 (servers_in placement) ≡ had_fit e set done placement l
  unfolding had_fit takes fits
  takes_same done placement l before costs =
      λ i. join first_fit
      (λ (q : ℕ).
      passes_same (chosen done placement q ++ (l ∷ []))
      (every_snoc Costs (chosen done placement q) l (every_chosen Costs done placement q before) costs)
      (omega (arith, length-append (chosen done placement q) (l ∷ []))) S i)
      0 (servers_in placement)

  fit_same : (done : List Figures) (placement : List ℕ) (l : Figures) → AllCost done → Costs l →
      join_by First (set_board set) H done placement l ≡ had_fit e set done placement l
  fit_same done placement l before costs = rooms_none done placement l ∙ takes_same done placement l before costs

  -- without a rule the tasks are placed by first fit in file order
  first_placed : set_placement set ≡ placed_by First (set_board set) H (set_figures set)
  unfolding set_placement placement_of
  first_placed =
      ap (λ (rule : Option ℕ). placement_by (given_or rule 0) (set_board set) H (set_figures set)) same.unruled
      ∙ first_in_file (set_board set) H (set_figures set)

  -- a task of such a cost
  abbrev Own : Task → Type 0
  Own t = Costs (figures_of set.header t)

  all_cost : AllCost (set_figures set)
  unfolding set_figures
  all_cost = every_map Own Costs (figures_of set.header) (members set) (λ t costs. costs) same.costs

  placement_same : set_placement set ≡ had_placement e set
  unfolding placed_by had_placement
  placement_same = first_placed ∙ placed_same Costs (join_by First (set_board set) H) (had_fit e set) fit_same [] [] (set_figures set) tt all_cost

  -- ---- no server is empty

  first_parted : Parted (set_figures set) (placed_by First (set_board set) H (set_figures set))
  unfolding placed_by
  first_parted =
      placed_keeps (join_by First (set_board set) H) Parted (fitting_none (set_board set)).parted
      (λ done placement l held.
      let q = join_by First (set_board set) H done placement l in
      parted_more placement q done l held (in_range (set_board set) done placement l q (fit_takes_or_opens First (set_board set) H done placement l)))
      (set_figures set)

  parted : Parted (set_figures set) (set_placement set)
  parted = subst (Parted (set_figures set)) (sym first_placed) first_parted

  server_cost : (q : ℕ) → AllCost (server_members set q)
  server_cost q = every_chosen Costs (set_figures set) (set_placement set) q all_cost

  server_some : (q : ℕ) → 1 ≤ q → q ≤ servers_in (set_placement set) → 1 ≤ length (server_members set q)
  server_some q first there =
      let task = parted.none_empty q first there in
      in_some (set_figures set) (set_placement set) task.0 q parted.one_each task.1 task.2

  -- ---- the plan

  reserves_same : set_reserves set ≡ had_reserves e set
  unfolding set_reserves reserves_with reserves_of had_reserves
  reserves_same =
      ups_same (λ (q : ℕ). reserve_for (set_board set) (server_members set q)) (λ (q : ℕ). had_reserve e set (server_members set q)) (servers_in (set_placement set))
      (λ q first there. reserve_same (server_members set q) (server_cost q) (server_some q first there))
      ∙ ap (λ (placement : List ℕ). up_to (λ (q : ℕ). had_reserve e set (chosen (set_figures set) placement q)) (servers_in placement)) placement_same

  caches_same : caches_with set (set_placement set) ≡ had_caches e set
  unfolding caches_with caches_of had_caches
  caches_same =
      ups_same (λ (q : ℕ). cache_of (server_members set q)) (λ (q : ℕ). e.cost set.header (server_members set q)) (servers_in (set_placement set))
      (λ q first there. same.cost (server_members set q) (server_cost q) (server_some q first there))
      ∙ ap (λ (placement : List ℕ). up_to (λ (q : ℕ). e.cost set.header (chosen (set_figures set) placement q)) (servers_in placement)) placement_same

  made_same : plan_made set ≡ had_made e set
  unfolding plan_made plan_with set_reserves had_made
  made_same = λ i. laid_out S (caches_same i) (placement_same i) (reserves_same i)

  needed_same : needed set ≡ had_needed e set
  unfolding needed had_needed
  needed_same = ap (processors_of S) reserves_same

  -- ---- the rows

  tight_at : (t : Task) → Own t → tight_row set.header t ≡ had_tight e set.header t
  unfolding tight_row had_tight
  tight_at t costs =
      ap
      (λ (cost : ℕ).
      let l = charged_in set.header cost (figures_of set.header t) in
      leb t.deadline set.header.relj || ltb l.deadline l.cost)
      (same.own t costs)

  tight_same : first_task (tight_row set.header) (members set) ≡ first_task (had_tight e set.header) (members set)
  tight_same = first_same Own (tight_row set.header) (had_tight e set.header) tight_at 1 (members set) same.costs

  horizon_had_lem : horizon_of set ≡ horizon_had e set
  unfolding horizon_of horizon_had
  horizon_had_lem =
      ap (λ (bs : List Bound). least_multiple_of S (map (λ (t : Task). t.period) (members set) ++ map (λ (b : Bound). b.load.period) bs)) bounds_same

  charged_same : charged_outcome set ≡ had_charged e set
  unfolding charged_outcome horizon_row had_charged
  charged_same =
      λ i. first_of (figures_same e set same.unruled known_same i)
      (first_of (at_task Slot (first_task (slot_row set.header) (members set)))
      (first_of (at_task Tight (tight_same i)) (when (ltb longest_horizon (horizon_had_lem i)) Horizon)))

  -- row 13 where there were interrupts, and where there were none
  alone_at : e.interrupts ≡ true → (t : Task) → Own t → alone_row set t ≡ had_alone e set t
  unfolding alone_row had_alone fits
  alone_at there t costs =
      ap not (passes_same (figures_of set.header t ∷ []) (costs, tt) (omega arith) S)
      ∙ ap (λ (b : Bool). b && not (had_passes e set (figures_of set.header t ∷ []) S)) (sym there)

  never_alone : e.interrupts ≡ false → first_task (had_alone e set) (members set) ≡ 0
  unfolding had_alone
  never_alone none = none_first (had_alone e set) zero_task 1 (members set) (λ j lt. rw none refl)

  alone_same : ask_row set ≡ false → charged_outcome set ≡ Ok tt → first_task (alone_row set) (members set) ≡ first_task (had_alone e set) (members set)
  alone_same carried charged = go e.interrupts refl
    where
      go : (b : Bool) → e.interrupts ≡ b → first_task (alone_row set) (members set) ≡ first_task (had_alone e set) (members set)
      go true there = first_same Own (alone_row set) (had_alone e set) (alone_at there) 1 (members set) same.costs
      go false none = fit_alone set (same.interrupts none) carried charged ∙ sym (never_alone none)

  abbrev full : Outcome
  full = when (full_row set) (Full (needed set))

  rest_same : (a : Bool) (o : Outcome) → ask_row set ≡ a → charged_outcome set ≡ o →
      first_of (when a Ask) (first_of o (first_of (at_task Alone (first_task (alone_row set) (members set))) full)) ≡
      first_of (when a Ask) (first_of o (first_of (at_task Alone (first_task (had_alone e set) (members set))) full))
  rest_same true o carried charged = refl
  rest_same false (Err r) carried charged = refl
  rest_same false (Ok _) carried charged = ap (λ (k : ℕ). first_of (at_task Alone k) full) (alone_same carried charged)

  outcome_same : plan_outcome set ≡ had_outcome e set
  unfolding plan_outcome full_row had_outcome
  outcome_same =
      rest_same (ask_row set) (charged_outcome set) refl refl
      ∙ (λ i. first_of (when (same.ask i) Ask)
      (first_of (charged_same i)
      (first_of (at_task Alone (first_task (had_alone e set) (members set)))
      (when (ltb set.header.processors (needed_same i)) (Full (needed_same i))))))

  plan_same : plan_of set ≡ had_plan e set
  unfolding plan_of had_plan
  plan_same = ap₂ answer outcome_same made_same

  -- ---- the questions

  makes_same : (plan : Plan) → makes set plan ≡ had_makes e set plan
  unfolding makes had_makes
  makes_same plan = ap₂ (λ (o : Outcome) (made : Plan). is_done o && agrees set.count plan made) outcome_same made_same

  who_same : (plan : Plan) (p : ℕ) (x : Tick) → who_runs set plan p x ≡ had_who e set plan p x
  unfolding who_runs had_who
  who_same plan p x =
      ap₂ (λ (m : Bool) (reserves : List ℕ). cond (m && is_processor plan p) (who_answer (who_of S reserves p x)) (refused_who Ask))
      (makes_same plan) reserves_same

  -- a plan that is made has the servers of the placement
  made_servers : (plan : Plan) → makes set plan ≡ true → plan.servers ≡ servers_in (set_placement set)
  unfolding plan_made plan_with laid_out reserves_with reserves_of
  made_servers plan made =
      (agree_same plan (plan_made set) set.count (makes_agrees set plan made)).servers
      ∙ up_length (λ (q : ℕ). reserve_for (set_board set) (server_members set q)) (servers_in (set_placement set))

  -- so a server that is asked of has a member
  asked_some : (plan : Plan) (q : ℕ) → makes set plan ≡ true → is_server plan q ≡ true → 1 ≤ length (server_members set q)
  unfolding is_server
  asked_some plan q made is =
      let first = leb-true 1 q (and_left (leb 1 q) (leb q plan.servers) is) in
      let last = leb-true q plan.servers (and_right (leb 1 q) (leb q plan.servers) is) in
      server_some q first (omega (arith, last, made_servers plan made))

  module _ (plan : Plan) (q R : ℕ) where
    abbrev answered : (m s : Bool) → (L : ℕ) → Verdict → PassAnswer
    answered m s L verdict = cond (m && (s && allowed S L R)) (pass_answer verdict) (refused_pass Ask)

    abbrev had_l : ℕ
    had_l = had_loss e set.header (had_members e set q)

    abbrev had : Verdict
    had = had_verdict e set (had_members e set q) R

    asked_same : (m s : Bool) → makes set plan ≡ m → is_server plan q ≡ s →
        cond (m && (s && allowed_to set q R)) (pass_answer (verdict_for (set_board set) (server_members set q) R)) (refused_pass Ask) ≡
        answered m s had_l had
    asked_same false s made is = refl
    asked_same true false made is = refl
    asked_same true true made is =
        let some = asked_some plan q made is in
        ap₂ (answered true true)
        (loss_same (server_members set q) (server_cost q) some
        ∙ ap (λ (placement : List ℕ). had_loss e set.header (chosen (set_figures set) placement q)) placement_same)
        (verdict_same (server_members set q) (server_cost q) some R
        ∙ ap (λ (placement : List ℕ). had_verdict e set (chosen (set_figures set) placement q) R) placement_same)

    pass_same : does_pass set plan q R ≡ had_pass e set plan q R
    unfolding does_pass had_pass
    pass_same =
        asked_same (makes set plan) (is_server plan q) refl refl
        ∙ ap (λ (m : Bool). answered m (is_server plan q) had_l had) (makes_same plan)

  pub set_as_before : SetAsBefore e set
  set_as_before = record { plan = plan_same; who = who_same; pass = pass_same }
