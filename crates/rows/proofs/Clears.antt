-- A set whose rows are clear: its tasks may be charged, its slot, overheads and horizon are within bounds.
-- Assumes nothing.
use Rattle.std.specs.Prelude.{Err, None, Ok, Option, Some, Option, ok_or}
use Prim.Native.Nat.{ℕ, zero, suc, ◌^◌, ◌≤◌, ◌<◌, ◌∣◌}
use mathlib.Core.Path.{◌≡◌, refl, sym, ap, subst, ◌∙◌}
use mathlib.Core.Bool.{true, false}
use mathlib.Core.List.{List, [], ◌∷◌, ◌++◌, map}
use native.Mathlib.Omega.{arith}
use borrow.Author.Tests.{leb-false, ltb-false, lt-ltb, le-ltb}
use lib.Dec.{leb, ltb}
use lib.ListN.{length, get_or}
use Rattle.laws.proofs.Tests.{clash, or_left, or_right}
use Rattle.refusals.specs.declared.Refusal.{Refusal}
use Rattle.refusals.specs.declared.Refusal.TheVariants.{Board, Range, Slot, Tight, Horizon}
use Rattle.refusals.specs.Refused.{Outcome}
use Rattle.refusals.proofs.FirstLaws.{done_refused, first_done, when_done}
use Rattle.wholes.specs.Multiple.{AllPositive, least_multiple_of, LeastMultipleOf, within}
use Rattle.wholes.proofs.WithinLaws.{within_value, past_value}
use Rattle.wholes.proofs.MultipleLaws.{least_multiple_of_lem, multiple_of_append, multiple_of_pos}
use Rattle.demand.specs.Load.{Meets, Every}
use Rattle.interrupting.specs.Interrupts.{Bound, EveryBound, bound_numbers}
use Rattle.tasks.specs.declared.set.Header.{Header}
use Rattle.tasks.specs.declared.set.Task.{Task}
use Rattle.tasks.specs.declared.set.TaskSet.{TaskSet}
use Rattle.tasks.specs.Set.{given_or, most_tasks, most_interrupts, longest_period, members, interrupts_in, zero_task, longest_horizon}
use Rattle.refusals.specs.First.{first_of, when}
use Rattle.frames.specs.Table.{widths_of, width_of, fields_in}
use Rattle.frames.specs.declared.table.Frame.{Frame}
use Rattle.tasks.specs.Values.{header_values}
use Rattle.taskask.proofs.Carried.{ask_header, ask_tasks, header_fits, task_fits}
use Rattle.tasks.specs.Search.{first_task, at_task}
use Rattle.taskrows.specs.Rows.{board_row, range_row, interrupt_row, range_at, figures_outcome}
use Rattle.taskask.specs.Ask.{task_overflows, ask_row}
use Rattle.tasks.proofs.FirstLaws.{first_none}
use Rattle.tasks.proofs.Some.{some_at}
use Rattle.tasks.proofs.Firsts.{at_some}
use Rattle.loads.specs.Charge.{charged_in, Member, Overheads, SmallCost}
use Rattle.loads.specs.Figures.{Figures, figures_of}
use Rattle.members.specs.Server.{SoundBoard, fits, Filed, Bounded}
use Rattle.members.proofs.ServerLaws.{alone_fits}
use Rattle.setfigures.specs.Figures.{set_figures, figure_numbers}
use Rattle.taskrows.proofs.BoardLaws.{board_slot}
use Rattle.tightrows.specs.Rows.{slot_row, own_load, tight_row}
use Rattle.rows.specs.Rows.{horizon_of, horizon_row, charged_outcome, cleared, rows_of, Chargeable, RowsClear}
use Rattle.setfigures.specs.Board.{set_interrupts, set_board}
use Rattle.setfigures.proofs.FigureLaws.{figures_back, numbers_there}
use Rattle.rows.proofs.InterruptLaws.{in_range, set_sound, set_bounded, interrupts_divide, figures_divide, figures_positive, bounds_positive}

-- ---- a header and a task

range_figures : (t : Task) → range_row t ≡ false → (1 ≤ t.cost) × (t.cost ≤ t.deadline) × (t.deadline ≤ t.period) × (t.period ≤ longest_period)
unfolding range_row
range_figures t e = in_range t.cost t.deadline t.period e

-- row 8 clear: release jitter below the deadline
tight_early : (h : Header) (t : Task) → tight_row h t ≡ false → h.relj < t.deadline
unfolding tight_row
tight_early h t e =
    let l = own_load h t in
    leb-false t.deadline h.relj (or_left (leb t.deadline h.relj) (ltb l.deadline l.cost) e)

-- and c ≤ d
tight_meets : (h : Header) (t : Task) → tight_row h t ≡ false → Meets (own_load h t)
unfolding tight_row
tight_meets h t e =
    let l = own_load h t in
    ltb-false l.deadline l.cost (or_right (leb t.deadline h.relj) (ltb l.deadline l.cost) e)

-- a task that breaks neither row 6 nor row 8 may be charged
task_member : (h : Header) (t : Task) → range_row t ≡ false → tight_row h t ≡ false → Member h (figures_of h t)
task_member h t r g =
    let f = range_figures t r in
    record { some = f.0; meets = f.1; constrained = f.2; short = f.3; early = tight_early h t g }

-- what holds task by task holds of all figures
pub every_by : (P : Figures → Type 0) (f : Task → Figures) (ts : List Task) → ((i : ℕ) → i < length ts → P (f (get_or ts i zero_task))) → Every P (map f ts)
every_by P f [] p = tt
every_by P f (t ∷ ts) p = (p zero (omega arith), every_by P f ts (λ i l. p (suc i) (omega arith)))

-- the cache cost of a task that a line can carry has four digits at most
cost_small : (h : Header) (cache : Option ℕ) (id cost deadline period : ℕ) → h.cpmdo < 2 ^ 16 →
    task_overflows (record { id = id; cost = cost; deadline = deadline; period = period; cache = cache }) ≡ false → given_or cache h.cpmdo < 2 ^ 16
unfolding widths_of
cost_small h None id cost deadline period small e = small
cost_small h (Some own) id cost deadline period small e =
    let fits : own < 16 ^ 4 = task_fits (record { id = id; cost = cost; deadline = deadline; period = period; cache = Some own }) e 4 (omega arith) in
    omega arith

-- ---- the rows of a set

-- no task is named where nothing is given
pub at_done : (r : ℕ → Refusal) (n : ℕ) → at_task r n ≡ Ok tt → n ≡ 0
at_done r zero e = refl
at_done r (suc n) e = done_refused (sym e)

module _ (set : TaskSet) where
  abbrev slot_first : ℕ
  slot_first = first_task (slot_row set.header) (members set)

  abbrev tight_first : ℕ
  tight_first = first_task (tight_row set.header) (members set)

  abbrev after_tight : Outcome
  after_tight = when (horizon_row set) Horizon

  abbrev after_slot : Outcome
  after_slot = first_of (at_task Tight tight_first) after_tight

  abbrev interrupt_first : ℕ
  interrupt_first = first_task (interrupt_row set.header.processors) (interrupts_in set)

  figures_parts : figures_outcome set ≡ Ok tt → (board_row set.header ≡ false) × (first_task range_row (members set) ≡ 0) × (interrupt_first ≡ 0)
  unfolding figures_outcome
  figures_parts e =
      let p = first_done (when (board_row set.header) Board) (first_of (at_task Range (first_task range_row (members set))) (at_task range_at interrupt_first)) e in
      let q = first_done (at_task Range (first_task range_row (members set))) (at_task range_at interrupt_first) p.1 in
      (when_done (board_row set.header) Board p.0, at_done Range (first_task range_row (members set)) q.0, at_done range_at interrupt_first q.1)

  -- figures done, and the first tasks that rows 7 and 8 would name: rows 5, 6 and 8 are clear
  pub chargeable : set.count ≤ most_tasks → set.interrupts.count ≤ most_interrupts → figures_outcome set ≡ Ok tt → tight_first ≡ 0 → Chargeable set
  chargeable few few_interrupts e t =
      let p = figures_parts e in
      record { few = few; few_interrupts = few_interrupts; board = p.0; range = p.1; interrupts = p.2; tight = t }

  -- rows 5 to 9, by the first that holds
  pub charged_figures : {r : Refusal} → figures_outcome set ≡ Err r → Err r ≡ rows_of set
  unfolding rows_of charged_outcome
  charged_figures e = rw e

  module _ (e : figures_outcome set ≡ Ok tt) where
    pub charged_slot : {n : ℕ} → n ≡ slot_first → (n ≡ 0 → ⊥) → Err (Slot n) ≡ rows_of set
    unfolding rows_of charged_outcome
    charged_slot {n} p ne = rw (e, ← p, at_some Slot n ne)

    module _ (s : slot_first ≡ 0) where
      pub charged_tight : {n : ℕ} → n ≡ tight_first → (n ≡ 0 → ⊥) → Err (Tight n) ≡ rows_of set
      unfolding rows_of charged_outcome
      charged_tight {n} p ne = rw (e, s, ← p, at_some Tight n ne)

      module _ (t : tight_first ≡ 0) where
        -- row 9 by the search for the horizon
        pub charged_past : within longest_horizon (horizon_of set) ≡ None → Err Horizon ≡ rows_of set
        unfolding rows_of charged_outcome horizon_row
        charged_past p = rw (e, s, t, lt-ltb longest_horizon (horizon_of set) (past_value longest_horizon (horizon_of set) p))

        -- none of them holds
        pub charged_found : {H : ℕ} → within longest_horizon (horizon_of set) ≡ Some H → Ok H ≡ rows_of set
        unfolding rows_of charged_outcome horizon_row
        charged_found {H} p =
            let w = within_value longest_horizon (horizon_of set) H p in
            rw (e, s, t, le-ltb longest_horizon (horizon_of set) w.1, w.0)

        -- either way
        pub charged_by : (r : Option ℕ) → r ≡ within longest_horizon (horizon_of set) → ok_or r Horizon ≡ rows_of set
        charged_by None e = charged_past (sym e)
        charged_by (Some H) e = charged_found (sym e)

  -- the rows are clear: none is given, and the horizon is the set's
  pub rows_clear : {H : ℕ} → rows_of set ≡ Ok H → (charged_outcome set ≡ Ok tt) × (H ≡ horizon_of set)
  unfolding rows_of
  rows_clear {H} e = by (charged_outcome set) e
    where
      by : (o : Outcome) → cleared o (horizon_of set) ≡ Ok H → (o ≡ Ok tt) × (H ≡ horizon_of set)
      by (Ok _) p = (refl, cc)
      by (Err r) p = clash (cc)

  -- the rows refuse as the first of them that holds
  pub rows_refused : {r : Refusal} → rows_of set ≡ Err r → charged_outcome set ≡ Err r
  unfolding rows_of
  rows_refused {r} e = by (charged_outcome set) e
    where
      by : (o : Outcome) → cleared o (horizon_of set) ≡ Err r → o ≡ Err r
      by (Ok _) p = clash (cc)
      by (Err s) p = cc

  -- rows 5 to 9 are clear where none of them is given
  pub charged_clear : charged_outcome set ≡ Ok tt → RowsClear set
  unfolding charged_outcome
  charged_clear e =
      let p = first_done (figures_outcome set) (first_of (at_task Slot slot_first) after_slot) e in
      let q = first_done (at_task Slot slot_first) after_slot p.1 in
      let r = first_done (at_task Tight tight_first) after_tight q.1 in
      let f = figures_parts p.0 in
      record {
        board = f.0;
        range = f.1;
        interrupts = f.2;
        slot = at_done Slot slot_first q.0;
        tight = at_done Tight tight_first r.0;
        horizon = when_done (horizon_row set) Horizon r.1;
      }

  -- ---- the figures of a set that may be charged

  module _ (ok : Chargeable set) where
    abbrev task : ℕ → Task
    task i = get_or (members set) i zero_task

    in_row : (i : ℕ) → i < length (members set) → range_row (task i) ≡ false
    in_row i l = first_none range_row zero_task 0 (members set) ok.range i l

    not_tight : (i : ℕ) → i < length (members set) → tight_row set.header (task i) ≡ false
    not_tight i l = first_none (tight_row set.header) zero_task 0 (members set) ok.tight i l

    each : (P : Figures → Type 0) → ((i : ℕ) → i < length (members set) → P (figures_of set.header (task i))) → Every P (set_figures set)
    unfolding set_figures
    each P f = every_by P (figures_of set.header) (members set) f

    -- its period is positive
    pub figures_some : Every (λ (f : Figures). 1 ≤ f.period) (set_figures set)
    figures_some =
        each (λ (f : Figures). 1 ≤ f.period)
        (λ i l.
        let f = range_figures (task i) (in_row i l) in
        omega (arith, f.0, f.1, f.2))

    -- charged with its own cache cost, its cost is at most its deadline
    pub figures_meet : Every (λ (f : Figures). Meets (charged_in set.header f.cache f)) (set_figures set)
    figures_meet = each (λ (f : Figures). Meets (charged_in set.header f.cache f)) (λ i l. tight_meets set.header (task i) (not_tight i l))

    member : (i : ℕ) → i < length (members set) → Member set.header (figures_of set.header (task i))
    member i l = task_member set.header (task i) (in_row i l) (not_tight i l)

    -- each task may be charged
    pub figures_members : Every (Member set.header) (set_figures set)
    figures_members = each (Member set.header) member

    -- and alone it fits, where the set has no interrupts
    pub figures_alone : set_interrupts set ≡ [] → Every (λ (f : Figures). fits (set_board set) (f ∷ []) ≡ true) (set_figures set)
    figures_alone none =
        each (λ (f : Figures). fits (set_board set) (f ∷ []) ≡ true)
        (λ i l.
        ap (λ (bs : List Bound). fits (record { header = set.header; interrupts = bs }) (figures_of set.header (task i) ∷ [])) none
        ∙ alone_fits set.header (figures_of set.header (task i)) (member i l) (board_slot set.header ok.board) (tight_meets set.header (task i) (not_tight i l)))

  -- the figures' periods are the tasks'
  same_periods : (ts : List Task) → map (λ (f : Figures). f.period) (map (figures_of set.header) ts) ≡ map (λ (t : Task). t.period) ts
  same_periods [] = refl
  same_periods (t ∷ ts) = ap (λ (ns : List ℕ). t.period ∷ ns) (same_periods ts)

  -- the periods of the figures and of the interrupts
  abbrev pub task_periods : List ℕ
  task_periods = map (λ (f : Figures). f.period) (set_figures set)

  abbrev pub interrupt_periods_lem : List ℕ
  interrupt_periods_lem = map (λ (b : Bound). b.load.period) (set_interrupts set)

  horizon_is : least_multiple_of set.header.slot (task_periods ++ interrupt_periods_lem) ≡ horizon_of set
  unfolding horizon_of set_figures
  horizon_is = ap (λ (ns : List ℕ). least_multiple_of set.header.slot (ns ++ interrupt_periods_lem)) (same_periods (members set))

  -- the horizon: the tasks' periods first, and on from there the interrupts'
  pub horizon_parts : least_multiple_of (least_multiple_of set.header.slot task_periods) interrupt_periods_lem ≡ horizon_of set
  horizon_parts = sym (multiple_of_append set.header.slot task_periods interrupt_periods_lem) ∙ horizon_is

  -- both are positive
  module _ (ok : Chargeable set) where
    pub tasks_positive : AllPositive task_periods
    tasks_positive = figures_positive (set_figures set) (figures_some ok)

    pub multiple_some : 1 ≤ least_multiple_of set.header.slot task_periods
    multiple_some = multiple_of_pos set.header.slot task_periods (board_slot set.header ok.board) tasks_positive

    pub horizon_some : 1 ≤ least_multiple_of (least_multiple_of set.header.slot task_periods) interrupt_periods_lem
    horizon_some = multiple_of_pos (least_multiple_of set.header.slot task_periods) interrupt_periods_lem multiple_some (bounds_positive (set_interrupts set) (set_sound set ok.interrupts))

  -- so it is their least common multiple
  pub horizon_least : LeastMultipleOf set.header.slot (task_periods ++ interrupt_periods_lem) (horizon_of set)
  horizon_least = subst (LeastMultipleOf set.header.slot (task_periods ++ interrupt_periods_lem)) horizon_is (least_multiple_of_lem set.header.slot (task_periods ++ interrupt_periods_lem))

  -- the interrupts' periods divide it
  pub interrupts_of_horizon : EveryBound (λ (b : Bound). b.load.period ∣ horizon_of set) (set_interrupts set)
  interrupts_of_horizon = interrupts_divide (set_figures set) (set_interrupts set) (horizon_of set) horizon_least.of_others

  -- row 9 clear: it is at most the limit
  pub horizon_short : horizon_row set ≡ false → horizon_of set ≤ longest_horizon
  unfolding horizon_row
  horizon_short e = ltb-false longest_horizon (horizon_of set) e

  own_filed : set.count ≤ length set.tasks → Chargeable set → Every SmallCost (set_figures set) → horizon_row set ≡ false → Filed set.header (figure_numbers set) set.count (horizon_of set)
  own_filed room ok costs e =
      let slot = board_slot set.header ok.board in
      record {
        there = numbers_there set room ok.few;
        few = ok.few;
        members = rw (figures_back set room) (figures_members ok);
        costs = rw (figures_back set room) costs;
        slot = slot;
        some = subst (λ (H : ℕ). 1 ≤ H) horizon_parts (horizon_some ok);
        short = horizon_short e;
        of_slot = horizon_least.of_first;
        of_periods = rw (figures_back set room) (figures_divide (set_figures set) (set_interrupts set) (horizon_of set) horizon_least.of_others);
      }

  -- the board of its servers is sound
  pub set_board_lem : Chargeable set → SoundBoard (set_board set)
  set_board_lem ok = record { slot = board_slot set.header ok.board; sound = set_sound set ok.interrupts }

  -- the figures of a set whose rows are clear are a file's, with the set's horizon
  pub set_filed : set.count ≤ length set.tasks → Chargeable set → Every SmallCost (set_figures set) → horizon_row set ≡ false →
      {numbers : List ℕ} {H : ℕ} → numbers ≡ figure_numbers set → H ≡ horizon_of set → Filed set.header numbers set.count H
  set_filed room ok costs e n h = rw (n, h) (own_filed room ok costs e)

  own_bounded : set.interrupts.count ≤ length set.interrupts.each → Chargeable set → Bounded set.header (bound_numbers (set_interrupts set)) (horizon_of set)
  own_bounded room ok = set_bounded set ok.interrupts ok.few_interrupts room interrupts_of_horizon

  -- the interrupts' numbers may stand behind the loads of its servers
  pub lent_bounded : set.interrupts.count ≤ length set.interrupts.each → Chargeable set →
      {numbers : List ℕ} {H : ℕ} → numbers ≡ bound_numbers (set_interrupts set) → H ≡ horizon_of set → Bounded set.header numbers H
  lent_bounded room ok n h = rw (n, h) (own_bounded room ok)

  -- ---- row 11: the slot and the overheads of a set that lines can carry

  figure_small : ask_row set ≡ false → (k : ℕ) → k < fields_in Frame.Header → get_or (header_values set.header) k 0 < 16 ^ width_of Frame.Header k
  figure_small e = header_fits set.header (ask_header set e)

  -- the slot has six digits at most
  pub slot_small : ask_row set ≡ false → set.header.slot < 2 ^ 32
  unfolding widths_of
  slot_small e = let slot : set.header.slot < 16 ^ 6 = figure_small e 1 (omega arith) in omega arith

  -- the overheads four
  pub set_overheads : ask_row set ≡ false → Overheads set.header
  unfolding widths_of
  set_overheads e =
      let relo : set.header.relo < 16 ^ 4 = figure_small e 3 (omega arith) in
      let ctswo : set.header.ctswo < 16 ^ 4 = figure_small e 4 (omega arith) in
      let resd : set.header.resd < 16 ^ 4 = figure_small e 5 (omega arith) in
      record { release = omega arith; switch = omega arith; delay = omega arith }

  -- and the tasks' cache costs
  pub set_costs : ask_row set ≡ false → Every SmallCost (set_figures set)
  unfolding widths_of set_figures
  set_costs e =
      let cpmdo : set.header.cpmdo < 16 ^ 4 = figure_small e 6 (omega arith) in
      every_by SmallCost (figures_of set.header) (members set)
      (λ i l.
      let t = get_or (members set) i zero_task in
      cost_small set.header t.cache t.id t.cost t.deadline t.period (omega arith) (some_at task_overflows (members set) i zero_task (ask_tasks set e) l))
