-- The horizon of a set by its interrupts in file order: the same numbers divide it as by processor.
-- Assumes nothing.
use Rattle.std.specs.Prelude.{None, Some}
use Prim.Native.Nat.{ℕ, zero, suc, ◌+◌, ◌*◌, ◌≤◌, ◌<◌, ◌∣◌}
use mathlib.Core.Path.{◌≡◌, refl, sym, ap, ap₂, subst, ◌∙◌}
use mathlib.Core.List.{List, [], ◌∷◌, ◌++◌, map, map-append}
use native.Mathlib.Omega.{arith}
use native.Mathlib.Nat.{dvd_antisymm, le_of_dvd}
use native.Mathlib.Decide.{ℕ_discrete}
use lib.ListN.{length, get_or, set as put, replicate, length-set, length-replicate}
use lib.Seq.{get_or-take, get_or-set_same, get_or-set_other}
use Rattle.wholes.specs.Multiple.{Divide, least_multiple_of, within}
use Rattle.wholes.proofs.MultipleLaws.{multiple_of_divides, first_divides_of, others_divide_of}
use Rattle.wholes.proofs.WithinLaws.{past_is, within_value, past_value}
use Rattle.demand.specs.Load.{each}
use Rattle.interrupting.specs.Interrupts.{Bound, EveryBound}
use Rattle.interrupting.proofs.BoundLaws.{bounds_map}
use Rattle.tasks.specs.declared.set.Interrupt.{Interrupt}
use Rattle.tasks.specs.declared.set.TaskSet.{TaskSet}
use Rattle.tasks.specs.Set.{most_interrupts, interrupts_in, zero_interrupt, longest_horizon}
use Rattle.loads.specs.Figures.{Figures, figures_at, figures_to}
use Rattle.members.specs.Server.{spaced, Apart}
use Rattle.members.proofs.SpacedLaws.{spaced_length, spaced_at}
use Rattle.byprocessor.proofs.GroupLaws.{Each, by_each, by_every}
use Rattle.setfigures.specs.Figures.{figure_numbers}
use Rattle.setfigures.specs.Board.{set_interrupts}
use Rattle.setfigures.proofs.FigureLaws.{figures_back, numbers_there}
use Rattle.setfigures.proofs.BoardLaws.{counted_length}
use Rattle.rows.specs.Rows.{horizon_of, Chargeable, PeriodsOf}
use Rattle.rows.proofs.InterruptLaws.{each_ranged, each_on, bounds_divide}
use Rattle.taskrows.proofs.BoardLaws.{board_slot}
use Rattle.rows.proofs.Clears.{task_periods, interrupt_periods_lem, horizon_parts, tasks_positive, multiple_some, horizon_some}

-- ---- the periods, place by place

-- those of the first i interrupts stand at the front
pub record PeriodsTo (is : List Interrupt) (i : ℕ) (numbers : List ℕ) : Type 0 where
  pub long : length numbers ≡ most_interrupts
  pub each : (k : ℕ) → k < i → get_or numbers k 0 ≡ (get_or is k zero_interrupt).period

pub periods_none : (is : List Interrupt) → PeriodsTo is 0 (replicate most_interrupts 0)
periods_none is = record { long = length-replicate {A = ℕ} most_interrupts 0; each = λ k l. absurd (omega arith) }

-- one more
pub periods_next : {is : List Interrupt} {i : ℕ} {numbers : List ℕ} {v : ℕ} → PeriodsTo is i numbers → i < most_interrupts → v ≡ (get_or is i zero_interrupt).period →
    PeriodsTo is (i + 1) (put numbers i v)
periods_next {is} {i} {numbers} {v} before l e = record {
  long = length-set numbers i v ∙ before.long;
  each = λ k h. elim (ℕ_discrete k i) [
    | yes same ↦
        ap (λ (j : ℕ). get_or (put numbers i v) j 0) same ∙ get_or-set_same numbers i v 0 (omega (arith, before.long)) ∙ e
        ∙ ap (λ (j : ℕ). (get_or is j zero_interrupt).period) (sym same)
    | no other ↦ get_or-set_other numbers i k v 0 other ∙ before.each k (omega (arith, other))
  ];
}

-- ---- numbers of which the same are multiples

half : (a : ℕ) (bs cs : List ℕ) → ((n : ℕ) → Divide cs n → Divide bs n) → least_multiple_of a bs ∣ least_multiple_of a cs
half a bs cs f = multiple_of_divides a bs (least_multiple_of a cs) (first_divides_of a cs) (f (least_multiple_of a cs) (others_divide_of a cs))

-- lists of which the same numbers are multiples have one least common multiple
same_multiple : (a : ℕ) (bs cs : List ℕ) → ((n : ℕ) → Divide bs n → Divide cs n) → ((n : ℕ) → Divide cs n → Divide bs n) → least_multiple_of a bs ≡ least_multiple_of a cs
same_multiple a bs cs f g = dvd_antisymm (half a bs cs g) (half a cs bs f)

divide_bounds : (bs : List Bound) (H : ℕ) → EveryBound (λ (b : Bound). b.load.period ∣ H) bs → Divide (map (λ (b : Bound). b.load.period) bs) H
divide_bounds [] H d i l = absurd (omega arith)
divide_bounds (b ∷ bs) H d zero l = d.0
divide_bounds (b ∷ bs) H d (suc i) l = divide_bounds bs H d.1 i (omega arith)

-- ---- of a set

-- the periods of tasks are every fourth number, from the third on
spaced_figures : (numbers : List ℕ) (n : ℕ) → spaced numbers 2 4 n ≡ map (λ (f : Figures). f.period) (figures_to numbers n)
unfolding spaced each
spaced_figures numbers zero = refl
spaced_figures numbers (suc n) =
    let at : 2 + 4 * n ≡ 4 * n + 2 = omega arith in
    ap₂ (λ (ps : List ℕ) (k : ℕ). ps ++ (get_or numbers k 0 ∷ [])) (spaced_figures numbers n) at ∙
    sym (map-append (λ (f : Figures). f.period) (figures_to numbers n) (figures_at numbers n ∷ []))

module _ (set : TaskSet) (room : set.count ≤ length set.tasks) (interrupts-room : set.interrupts.count ≤ length set.interrupts.each) (ok : Chargeable set) where
  abbrev count : ℕ
  count = set.interrupts.count

  -- the horizon of the tasks alone
  abbrev of_tasks : ℕ
  of_tasks = least_multiple_of set.header.slot (task_periods set)

  module _ {figures : List ℕ} (f : figures ≡ figure_numbers set) where
    -- the tasks' periods among their numbers
    tasks_spaced : spaced figures 2 4 set.count ≡ task_periods set
    tasks_spaced =
        spaced_figures figures set.count
        ∙ ap (λ (ns : List ℕ). map (λ (g : Figures). g.period) (figures_to ns set.count)) f
        ∙ ap (map (λ (g : Figures). g.period)) (figures_back set room)

    pub tasks_apart : Apart figures 2 4 set.count set.header.slot
    tasks_apart = record {
      there = λ i l. omega (arith, ap length f, numbers_there set room ok.few);
      some = board_slot set.header ok.board;
      positive = rw tasks_spaced (tasks_positive set ok);
    }

    tasks_is : within longest_horizon (least_multiple_of set.header.slot (spaced figures 2 4 set.count)) ≡ within longest_horizon of_tasks
    tasks_is = ap (λ (ns : List ℕ). within longest_horizon (least_multiple_of set.header.slot ns)) tasks_spaced

    -- past the limit after the tasks' periods is past it after all
    pub tasks_past : within longest_horizon (least_multiple_of set.header.slot (spaced figures 2 4 set.count)) ≡ None → None ≡ within longest_horizon (horizon_of set)
    tasks_past p =
        let more : of_tasks ≤ least_multiple_of of_tasks (interrupt_periods_lem set) =
        le_of_dvd (horizon_some set ok) (first_divides_of of_tasks (interrupt_periods_lem set)) in
        sym (past_is longest_horizon (horizon_of set) (omega (arith, sym (horizon_parts set), more, past_value longest_horizon of_tasks (sym tasks_is ∙ p))))

    pub tasks_within : {own : ℕ} → within longest_horizon (least_multiple_of set.header.slot (spaced figures 2 4 set.count)) ≡ Some own → own ≡ of_tasks
    tasks_within {own} p = (within_value longest_horizon of_tasks own (sym tasks_is ∙ p)).0

  counted_below : {k : ℕ} → k < length (interrupts_in set) → k < count
  counted_below l = omega (arith, counted_length set interrupts-room)

  module _ (numbers : List ℕ) (p : PeriodsOf set.interrupts numbers) where
    abbrev in_order : List ℕ
    in_order = spaced numbers 0 1 count

    -- number k is the period of interrupt k
    period_at : (k : ℕ) → k < count → get_or in_order k 0 ≡ (get_or (interrupts_in set) k zero_interrupt).period
    period_at k l =
        spaced_at numbers 0 1 count k l
        ∙ ap (λ (j : ℕ). get_or numbers j 0) (let here : 0 + 1 * k ≡ k = omega arith in here)
        ∙ p k l
        ∙ ap (λ (i : Interrupt). i.period) (sym (get_or-take count set.interrupts.each k zero_interrupt l))

    below_counted : {k : ℕ} → k < length in_order → k < length (interrupts_in set)
    below_counted l = omega (arith, spaced_length numbers 0 1 count, counted_length set interrupts-room)

    to_processors : (n : ℕ) → Divide in_order n → Divide (interrupt_periods_lem set) n
    unfolding set_interrupts
    to_processors n d =
        divide_bounds (set_interrupts set) n
        (bounds_map (λ (b : Bound). (b.load.period ∣ n) × (1 ≤ b.processor) × (b.processor ≤ set.header.processors)) (λ (b : Bound). b.load.period ∣ n) (set_interrupts set) (λ b x. x.0)
        (by_each (λ (i : Interrupt). i.period ∣ n) (λ (b : Bound). b.load.period ∣ n) (λ i x. x) set.header.processors (interrupts_in set) each))
      where
        each : Each (λ (i : Interrupt). i.period ∣ n) (interrupts_in set)
        each k l =
            let below : k < count = counted_below l in
            subst (λ (t : ℕ). t ∣ n) (period_at k below) (d k (omega (arith, spaced_length numbers 0 1 count)))

    to_file : (n : ℕ) → Divide (interrupt_periods_lem set) n → Divide in_order n
    unfolding set_interrupts
    to_file n d k l =
        let here : k < length (interrupts_in set) = below_counted l in
        subst (λ (t : ℕ). t ∣ n) (sym (period_at k (counted_below here)))
        (by_every (λ (b : Bound). b.load.period ∣ n) set.header.processors (interrupts_in set) (each_on set ok.interrupts) (bounds_divide (set_interrupts set) n d) k here)

    module _ {own : ℕ} (e : own ≡ of_tasks) where
      -- the interrupts' periods may go on from there
      pub periods_apart : most_interrupts ≤ length numbers → Apart numbers 0 1 count own
      periods_apart long = record {
        there = λ i l. omega (arith, ok.few_interrupts);
        some = omega (arith, e, multiple_some set ok);
        positive = λ k l.
            let i = each_ranged set ok.interrupts k (below_counted l) in
            omega (arith, period_at k (counted_below (below_counted l)), i.some, i.meets, i.constrained);
      }

      -- and come to the horizon
      pub periods_passed : within longest_horizon (least_multiple_of own in_order) ≡ within longest_horizon (horizon_of set)
      periods_passed =
          ap (within longest_horizon)
          (same_multiple own in_order (interrupt_periods_lem set) to_processors to_file ∙ ap (λ (k : ℕ). least_multiple_of k (interrupt_periods_lem set)) e ∙ horizon_parts set)
