-- The interrupts of a set for which row 6 is clear: each is in range, so that their numbers may stand behind a server's loads.
-- Assumes nothing.
use Prim.Native.Nat.{ℕ, zero, suc, ◌≤◌, ◌<◌, ◌∣◌}
use mathlib.Core.Path.{◌≡◌, sym, subst}
use mathlib.Core.Bool.{Bool, true, false, not, ◌&&◌, ◌||◌}
use mathlib.Core.List.{List, [], ◌∷◌, ◌++◌, map}
use native.Mathlib.Omega.{arith}
use borrow.Author.Tests.{leb-true, leb-false, not-false}
use lib.Dec.{leb}
use lib.ListN.{length, get_or}
use Rattle.laws.proofs.Tests.{and_left, and_right, or_left, or_right}
use Rattle.wholes.specs.Multiple.{Divide, AllPositive}
use Rattle.demand.specs.Load.{Sound, Every}
use Rattle.interrupting.specs.Interrupts.{Bound, Numbered, EveryBound, Ordered, bound_numbers}
use Rattle.interrupting.proofs.BoundLaws.{bounds_map}
use Rattle.tasks.specs.declared.set.Interrupt.{Interrupt}
use Rattle.tasks.specs.declared.set.TaskSet.{TaskSet}
use Rattle.tasks.specs.Set.{most_interrupts, longest_period, interrupts_in, zero_interrupt}
use Rattle.tasks.specs.Search.{first_task}
use Rattle.tasks.proofs.FirstLaws.{first_none}
use Rattle.taskrows.specs.Rows.{out_of_range, interrupt_row}
use Rattle.loads.specs.Figures.{Figures}
use Rattle.members.specs.Server.{Bounded}
use Rattle.byprocessor.specs.Interrupts.{bound_of, Timely}
use Rattle.byprocessor.proofs.GroupLaws.{On, Each, by_each, by_ordered}
use Rattle.byprocessor.proofs.NumberLaws.{numbers_length, bounds_all}
use Rattle.setfigures.specs.Board.{set_interrupts}
use Rattle.setfigures.proofs.BoardLaws.{interrupts_length}

-- ---- row 6 clear

-- 1 ≤ C ≤ D ≤ T ≤ 1,000,000
pub in_range : (c d t : ℕ) → out_of_range c d t ≡ false → (1 ≤ c) × (c ≤ d) × (d ≤ t) × (t ≤ longest_period)
in_range c d t e = (leb-true 1 c (and_left x (y && (z && w)) all), leb-true c d (and_left y (z && w) rest), leb-true d t (and_left z w last), leb-true t longest_period (and_right z w last))
  where
    x : Bool
    x = leb 1 c

    y : Bool
    y = leb c d

    z : Bool
    z = leb d t

    w : Bool
    w = leb t longest_period

    all : (x && (y && (z && w))) ≡ true
    all = not-false (x && (y && (z && w))) e

    rest : (y && (z && w)) ≡ true
    rest = and_right x (y && (z && w)) all

    last : (z && w) ≡ true
    last = and_right y (z && w) rest

-- an interrupt in range on a board of m processors
pub record Ranged (m : ℕ) (i : Interrupt) : Type 0 where
  pub some : 1 ≤ i.cost
  pub meets : i.cost ≤ i.deadline
  pub constrained : i.deadline ≤ i.period
  pub short : i.period ≤ longest_period
  pub early : i.jitter < i.deadline
  pub from_one : 1 ≤ i.processor
  pub within : i.processor ≤ m

pub row_ranged : (m : ℕ) (i : Interrupt) → interrupt_row m i ≡ false → Ranged m i
unfolding interrupt_row
row_ranged m i e = record {
  some = f.0;
  meets = f.1;
  constrained = f.2;
  short = f.3;
  early = leb-false i.deadline i.jitter (or_left jitter (not on) rest);
  from_one = leb-true 1 i.processor (and_left (leb 1 i.processor) (leb i.processor m) placed);
  within = leb-true i.processor m (and_right (leb 1 i.processor) (leb i.processor m) placed);
}
  where
    range : Bool
    range = out_of_range i.cost i.deadline i.period

    jitter : Bool
    jitter = leb i.deadline i.jitter

    on : Bool
    on = leb 1 i.processor && leb i.processor m

    f : (1 ≤ i.cost) × (i.cost ≤ i.deadline) × (i.deadline ≤ i.period) × (i.period ≤ longest_period)
    f = in_range i.cost i.deadline i.period (or_left range (jitter || not on) e)

    rest : (jitter || not on) ≡ false
    rest = or_right range (jitter || not on) e

    placed : on ≡ true
    placed = not-false on (or_right jitter (not on) rest)

-- what such an interrupt asks may stand behind loads
ranged_numbered : (m : ℕ) (i : Interrupt) → Ranged m i → Numbered (bound_of i)
ranged_numbered m i r = record {
  there = r.from_one;
  sound = record { some = r.some; due = omega (arith, r.early); constrained = omega (arith, r.constrained) };
  small = record { cost_small = omega (arith, r.meets, r.constrained); period_small = omega (arith, r.short) };
}

-- ---- the interrupts of a set

module _ (set : TaskSet) (clear : first_task (interrupt_row set.header.processors) (interrupts_in set) ≡ 0) where
  pub each_ranged : Each (Ranged set.header.processors) (interrupts_in set)
  each_ranged k l = row_ranged set.header.processors (get_or (interrupts_in set) k zero_interrupt) (first_none (interrupt_row set.header.processors) zero_interrupt 0 (interrupts_in set) clear k l)

  -- all stand on the board's processors
  pub each_on : Each (On set.header.processors) (interrupts_in set)
  each_on k l = ((each_ranged k l).from_one, (each_ranged k l).within)

  -- they may be put in order
  pub set_timely : set.interrupts.count ≤ most_interrupts → Timely set.interrupts
  set_timely few = record { few = few; early = λ k l. omega (arith, (each_ranged k l).early) }

  numbered_on : EveryBound (λ (b : Bound). Numbered b × (1 ≤ b.processor) × (b.processor ≤ set.header.processors)) (set_interrupts set)
  unfolding set_interrupts
  numbered_on = by_each (Ranged set.header.processors) Numbered (ranged_numbered set.header.processors) set.header.processors (interrupts_in set) each_ranged

  pub set_numbered : EveryBound Numbered (set_interrupts set)
  set_numbered = bounds_map (λ (b : Bound). Numbered b × (1 ≤ b.processor) × (b.processor ≤ set.header.processors)) Numbered (set_interrupts set) (λ b x. x.0) numbered_on

  pub set_sound : EveryBound (λ (b : Bound). Sound b.load) (set_interrupts set)
  set_sound = bounds_map Numbered (λ (b : Bound). Sound b.load) (set_interrupts set) (λ b x. x.sound) set_numbered

  set_on : EveryBound (λ (b : Bound). b.processor ≤ set.header.processors) (set_interrupts set)
  set_on = bounds_map (λ (b : Bound). Numbered b × (1 ≤ b.processor) × (b.processor ≤ set.header.processors)) (λ (b : Bound). b.processor ≤ set.header.processors) (set_interrupts set) (λ b x. x.2) numbered_on

  set_ordered : Ordered (set_interrupts set)
  unfolding set_interrupts
  set_ordered = by_ordered set.header.processors (interrupts_in set)

  -- their numbers may stand behind a server's loads
  pub set_bounded : set.interrupts.count ≤ most_interrupts → set.interrupts.count ≤ length set.interrupts.each → {H : ℕ} →
      EveryBound (λ (b : Bound). b.load.period ∣ H) (set_interrupts set) → Bounded set.header (bound_numbers (set_interrupts set)) H
  set_bounded few room {H} periods =
      let long = numbers_length (set_interrupts set) in
      let back = sym (bounds_all (set_interrupts set)) in
      record {
        fours = omega (arith, long);
        few = omega (arith, long, interrupts_length set room each_on);
        numbered = subst (EveryBound Numbered) back set_numbered;
        on_board = subst (EveryBound (λ (b : Bound). b.processor ≤ set.header.processors)) back set_on;
        ordered = subst Ordered back set_ordered;
        of_periods = subst (EveryBound (λ (b : Bound). b.load.period ∣ H)) back periods;
      }

-- ---- periods that divide, and that are positive

pub divide_left : (ms ns : List ℕ) (H : ℕ) → Divide (ms ++ ns) H → Divide ms H
divide_left [] ns H d i l = absurd (omega arith)
divide_left (m ∷ ms) ns H d zero l = d 0 (omega arith)
divide_left (m ∷ ms) ns H d (suc i) l = divide_left ms ns H (λ j h. d (suc j) (omega arith)) i (omega arith)

pub divide_right : (ms ns : List ℕ) (H : ℕ) → Divide (ms ++ ns) H → Divide ns H
divide_right [] ns H d = d
divide_right (m ∷ ms) ns H d = divide_right ms ns H (λ j h. d (suc j) (omega arith))

every_divides : (fs : List Figures) (H : ℕ) → Divide (map (λ (f : Figures). f.period) fs) H → Every (λ (f : Figures). f.period ∣ H) fs
every_divides [] H d = tt
every_divides (f ∷ fs) H d = (d 0 (omega arith), every_divides fs H (λ j h. d (suc j) (omega arith)))

pub bounds_divide : (bs : List Bound) (H : ℕ) → Divide (map (λ (b : Bound). b.load.period) bs) H → EveryBound (λ (b : Bound). b.load.period ∣ H) bs
bounds_divide [] H d = tt
bounds_divide (b ∷ bs) H d = (d 0 (omega arith), bounds_divide bs H (λ j h. d (suc j) (omega arith)))

-- of the periods of tasks and of interrupts
module _ (fs : List Figures) (bs : List Bound) (H : ℕ) (d : Divide (map (λ (f : Figures). f.period) fs ++ map (λ (b : Bound). b.load.period) bs) H) where
  pub figures_divide : Every (λ (f : Figures). f.period ∣ H) fs
  figures_divide = every_divides fs H (divide_left (map (λ (f : Figures). f.period) fs) (map (λ (b : Bound). b.load.period) bs) H d)

  pub interrupts_divide : EveryBound (λ (b : Bound). b.load.period ∣ H) bs
  interrupts_divide = bounds_divide bs H (divide_right (map (λ (f : Figures). f.period) fs) (map (λ (b : Bound). b.load.period) bs) H d)

pub figures_positive : (fs : List Figures) → Every (λ (f : Figures). 1 ≤ f.period) fs → AllPositive (map (λ (f : Figures). f.period) fs)
figures_positive [] x i l = absurd (omega arith)
figures_positive (f ∷ fs) x zero l = x.0
figures_positive (f ∷ fs) x (suc i) l = figures_positive fs x.1 i (omega arith)

pub bounds_positive : (bs : List Bound) → EveryBound (λ (b : Bound). Sound b.load) bs → AllPositive (map (λ (b : Bound). b.load.period) bs)
bounds_positive [] x i l = absurd (omega arith)
bounds_positive (b ∷ bs) x zero l = omega (arith, x.0.due, x.0.constrained)
bounds_positive (b ∷ bs) x (suc i) l = bounds_positive bs x.1 i (omega arith)
