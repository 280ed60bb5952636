-- The plan of a set whose rows are clear, and the planner's answer by the first row that holds.
-- Assumes nothing.
use Rattle.std.specs.Prelude.{Err, Ok}
use Prim.Native.Nat.{ℕ, ◌+◌, ◌^◌, ◌≤◌, ◌<◌}
use mathlib.Core.Path.{◌≡◌, refl, sym, ap, ap₂, ◌∙◌}
use mathlib.Core.Bool.{true, false}
use mathlib.Core.List.{List}
use native.Mathlib.Omega.{arith}
use borrow.Author.Tests.{lt-ltb, le-ltb}
use lib.ListN.{length, take}
use Rattle.refusals.specs.declared.Refusal.{Refusal}
use Rattle.refusals.specs.declared.Refusal.TheVariants.{Full, Ask, Alone}
use Rattle.refusals.specs.Refused.{Outcome}
use Rattle.demand.specs.Load.{Every}
use Rattle.loads.specs.Charge.{Member}
use Rattle.loads.specs.Figures.{Figures, figures_to}
use Rattle.interrupting.specs.Interrupts.{bound_numbers}
use Rattle.members.specs.Server.{Board, SoundBoard, board_of, Filed}
use Rattle.servers.specs.Placement.{servers_in, placement_of}
use Rattle.sizing.specs.Reserve.{servers_of}
use Rattle.servers.specs.Claims.{FitAlone}
use Rattle.sizing.specs.declared.Servers.{Servers}
use Rattle.tasks.specs.declared.set.TaskSet.{TaskSet}
use Rattle.tasks.specs.Set.{most_tasks, most_interrupts, members as set-members}
use Rattle.tasks.specs.Search.{first_task, at_task}
use Rattle.tasks.proofs.Firsts.{at_some}
use Rattle.refusals.specs.First.{first_of, when}
use Rattle.taskask.specs.Ask.{ask_row}
use Rattle.taskask.proofs.Carried.{count_within, interrupts_within, ask_count}
use Rattle.plan.specs.declared.plan.Plan.{Plan}
use Rattle.reserves.specs.Reserves.{processors_of}
use Rattle.setfigures.specs.Figures.{set_figures, figure_numbers}
use Rattle.setfigures.specs.Board.{set_interrupts, set_board}
use Rattle.rows.specs.Rows.{charged_outcome, horizon_of, Chargeable, RowsClear}
use Rattle.layout.specs.Layout.{laid_out}
use Rattle.layout.specs.Made.{reserves_with, caches_with, plan_with, set_placement, set_reserves, plan_made}
use Rattle.plan.specs.Plan.{zero_plan}
use Rattle.alonerow.specs.Alone.{alone_row}
use Rattle.planner.specs.Planner.{Clear, Placeable, needed, full_row, plan_outcome, answer, plan_of}
use Rattle.layout.specs.Layable.{Layable}
use Rattle.refusals.proofs.FirstLaws.{first_done, when_done}
use Rattle.setfigures.proofs.FigureLaws.{figures_length, figures_back}
use Rattle.setfigures.proofs.BoardLaws.{board_back}
use Rattle.servers.proofs.Claims.{servers_few}
use Rattle.sizing.proofs.Claims.{reserves_count}
use Rattle.taskrows.proofs.BoardLaws.{board_slot}
use Rattle.rows.proofs.Clears.{at_done, charged_clear, figures_members, slot_small, set_costs, set_filed, set_board_lem}
use Rattle.alonerow.proofs.AloneLaws.{alone_clear}
use Rattle.layout.proofs.Layouts.{processors_few}
use Rattle.planner.proofs.Served.{front_reserves, layable, laid_is}

module _ (set : TaskSet) (full : length set.tasks ≡ most_tasks) (clear : Clear set) where
  pub rows_clear : RowsClear set
  rows_clear = charged_clear set clear.charged

  -- at most most_tasks tasks
  pub count_most : set.count ≤ most_tasks
  count_most = (count_within set (ask_count set clear.carried)).1

  -- and most_interrupts interrupts
  pub interrupts_most : set.interrupts.count ≤ most_interrupts
  interrupts_most = interrupts_within set (ask_count set clear.carried)

  -- the set has room for them
  pub fits : set.count ≤ length set.tasks
  fits = omega (arith, count_most, full)

  -- its tasks may be charged
  pub may_charge : Chargeable set
  may_charge =
      record {
        few = count_most;
        few_interrupts = interrupts_most;
        board = rows_clear.board;
        range = rows_clear.range;
        interrupts = rows_clear.interrupts;
        tight = rows_clear.tight;
      }

  -- there are as many figures as tasks
  pub few_figures : length (set_figures set) ≤ most_tasks
  few_figures = omega (arith, figures_length set fits, count_most)

  -- each may be charged
  pub members : Every (Member set.header) (set_figures set)
  members = figures_members set may_charge

  -- the board is sound
  pub sound : SoundBoard (set_board set)
  sound = set_board_lem set may_charge

  -- the slot is at least 1
  pub slot_some : 1 ≤ set.header.slot
  slot_some = board_slot set.header rows_clear.board

  -- and small
  pub slot_below : set.header.slot < 2 ^ 32
  slot_below = slot_small set clear.carried

  -- the reserves are as many as the servers
  pub set_count : length (set_reserves set) ≡ servers_in (set_placement set)
  unfolding set_reserves reserves_with set_placement
  set_count = reserves_count (set_board set) (set_figures set) (placement_of (set_board set) (set_figures set))

  -- there are at most most_tasks servers
  pub set_few : servers_in (set_placement set) ≤ most_tasks
  unfolding set_placement
  set_few = omega (arith, servers_few (set_board set) (set_figures set), few_figures)

  -- no more processors than tasks are needed
  pub needed_few : needed set ≤ most_tasks
  unfolding needed
  needed_few = omega (arith, processors_few set.header.slot (set_reserves set) slot_some, set_count, set_few)

  -- the same of the plan's figure
  pub made_servers : (plan_made set).servers ≤ most_tasks
  unfolding plan_made plan_with laid_out set_reserves
  made_servers = omega (arith, set_count, set_few)

  -- the figures may be placed and sized, by the set's horizon
  pub filed : {numbers : List ℕ} {H : ℕ} → numbers ≡ figure_numbers set → H ≡ horizon_of set → Filed set.header numbers set.count H
  filed = set_filed set fits may_charge (set_costs set clear.carried) rows_clear.horizon

  -- they are the servers of the set's figures, on its board
  pub set_served : {numbers interrupts : List ℕ} → numbers ≡ figure_numbers set → interrupts ≡ bound_numbers (set_interrupts set) →
      {sv : Servers} → sv ≡ servers_of (board_of set.header interrupts) (figures_to numbers set.count) → sv ≡ servers_of (set_board set) (set_figures set)
  set_served e n g =
      g ∙ ap₂ (λ (ns is : List ℕ). servers_of (board_of set.header is) (figures_to ns set.count)) e n
      ∙ ap₂ (λ (b : Board) (fs : List Figures). servers_of b fs) (board_back set) (figures_back set fits)

-- ---- where row 13 is clear too

module _ (set : TaskSet) (full : length set.tasks ≡ most_tasks) (clear : Placeable set) where
  -- each task fits alone
  pub alone : FitAlone (set_board set) (set_figures set)
  alone = alone_clear set clear.alone

  module _ {sv : Servers} (own : sv ≡ servers_of (set_board set) (set_figures set)) where
    few : length (set_figures set) ≤ most_tasks
    few = few_figures set full clear.clear

    tasks : set.count ≡ length (set_figures set)
    tasks = sym (figures_length set (fits set full clear.clear))

    -- they can be laid out
    pub set_layable : Layable sv set.count set.header.slot
    set_layable = layable (set_board set) (set_figures set) few (members set full clear.clear) alone (sound set full clear.clear) (slot_below set full clear.clear) own tasks

    -- that is the set's plan
    pub set_laid : laid_out set.header.slot (take sv.count sv.cache) (take set.count sv.placement) (take sv.count sv.reserve) ≡ plan_made set
    unfolding plan_made plan_with reserves_with caches_with set_placement
    set_laid = laid_is (set_board set) (set_figures set) few (members set full clear.clear) alone (sound set full clear.clear) (slot_below set full clear.clear) own tasks

    -- their processors are those that the set needs
    pub set_needs : processors_of set.header.slot (take sv.count sv.reserve) ≡ needed set
    unfolding needed set_reserves reserves_with set_placement
    set_needs = ap (processors_of set.header.slot) (front_reserves (set_board set) (set_figures set) few (members set full clear.clear) alone (sound set full clear.clear) (slot_below set full clear.clear) own tasks)

-- the processors of the set's plan are those that it needs
pub made_needs : (set : TaskSet) → (plan_made set).ring + (plan_made set).whole ≡ needed set
unfolding plan_made plan_with laid_out set_reserves needed
made_needs set = refl

-- row 10 by the test of the sum
pub full_holds : (set : TaskSet) {n : ℕ} → n ≡ needed set → set.header.processors < n → full_row set ≡ true
unfolding full_row
full_holds set e h = lt-ltb set.header.processors (needed set) (omega (arith, e))

-- the board has enough
pub full_clear : (set : TaskSet) {n : ℕ} → n ≡ needed set → n ≤ set.header.processors → full_row set ≡ false
unfolding full_row
full_clear set e h = le-ltb set.header.processors (needed set) (omega (arith, e))

-- ---- the planner's answer

answer_outcome : (o : Outcome) (p : Plan) → (answer o p).outcome ≡ o
answer_outcome (Ok _) p = refl
answer_outcome (Err r) p = refl

module _ (set : TaskSet) where
  pub plan_outcome_lem : (plan_of set).outcome ≡ plan_outcome set
  unfolding plan_of
  plan_outcome_lem = answer_outcome (plan_outcome set) (plan_made set)

  -- done: the plan is the set's
  pub plan_is : plan_outcome set ≡ Ok tt → (plan_of set).plan ≡ plan_made set
  unfolding plan_of
  plan_is e = rw e

  abbrev alone_first : ℕ
  alone_first = first_task (alone_row set) (set-members set)

  abbrev after_alone : Outcome
  after_alone = when (full_row set) (Full (needed set))

  abbrev after_charged : Outcome
  after_charged = first_of (at_task Alone alone_first) after_alone

  -- done: every row is clear
  pub outcome_clear : plan_outcome set ≡ Ok tt → Placeable set × (full_row set ≡ false)
  unfolding plan_outcome
  outcome_clear e =
      let p = first_done (when (ask_row set) Ask) (first_of (charged_outcome set) after_charged) e in
      let q = first_done (charged_outcome set) after_charged p.1 in
      let r = first_done (at_task Alone alone_first) after_alone q.1 in
      let clear : Clear set = record { carried = when_done (ask_row set) Ask p.0; charged = q.0 } in
      (record { clear = clear; alone = at_done Alone alone_first r.0 }, when_done (full_row set) (Full (needed set)) r.1)

  -- row 11 holds
  pub plan_ask : ask_row set ≡ true → answer (Err Ask) zero_plan ≡ plan_of set
  unfolding plan_of plan_outcome
  plan_ask a = rw a

  -- row 11 is clear and one of rows 5 to 9 holds
  pub plan_charged : {r : Refusal} → ask_row set ≡ false → charged_outcome set ≡ Err r → answer (Err r) zero_plan ≡ plan_of set
  unfolding plan_of plan_outcome
  plan_charged a e = rw (a, e)

  -- rows 11 and 5 to 9 are clear and row 13 holds
  pub plan_alone : {n : ℕ} → Clear set → n ≡ alone_first → (n ≡ 0 → ⊥) → answer (Err (Alone n)) zero_plan ≡ plan_of set
  unfolding plan_of plan_outcome
  plan_alone {n} clear e some = rw (clear.carried, clear.charged, ← e, at_some Alone n some)

  -- row 10 alone holds
  pub plan_full : {n : ℕ} → Placeable set → full_row set ≡ true → n ≡ needed set → answer (Err (Full n)) zero_plan ≡ plan_of set
  unfolding plan_of plan_outcome
  plan_full clear f e = rw (clear.clear.carried, clear.clear.charged, clear.alone, f, e)

  -- no row holds
  pub plan_done : {p : Plan} → Placeable set → full_row set ≡ false → p ≡ plan_made set → record { outcome = Ok tt; plan = p } ≡ plan_of set
  unfolding plan_of plan_outcome
  plan_done clear f e = rw (clear.clear.carried, clear.clear.charged, clear.alone, f, e)
