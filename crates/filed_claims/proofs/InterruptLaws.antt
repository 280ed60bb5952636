-- The interrupts of a set in file order and by processor: what they ask of each processor, the greatest of that, and their periods.
-- Assumes nothing.
use Prim.Native.Nat.{ℕ, zero, suc, ◌≤◌, ◌∣◌}
use mathlib.Core.Path.{◌≡◌, refl, sym, ap, ◌∙◌}
use mathlib.Core.Logic.{inl, inr}
use mathlib.Core.List.{List, [], ◌∷◌, ◌++◌, map}
use native.Mathlib.Omega.{arith}
use native.Mathlib.Decide.{ℕ_discrete}
use borrow.Author.Tests.{eq-eqb, ne_eqb}
use Rattle.wholes.specs.Multiple.{Divide, LeastMultipleOf}
use Rattle.demand.specs.Load.{Load, Sound}
use Rattle.demand.specs.Demand.{demand}
use Rattle.demand.specs.Steps.{StepOf, Some}
use Rattle.interrupting.specs.Interrupts.{Bound, EveryBound, bound_to, interrupt_demand, greatest}
use Rattle.interrupting.proofs.BoundLaws.{bounds_map, bound_own, bound_other, every_bound}
use Rattle.interrupting.proofs.GreatestLaws.{greatest_most, greatest_one}
use Rattle.steps.proofs.StepLaws.{some_steps}
use Rattle.tasks.specs.declared.set.Interrupt.{Interrupt}
use Rattle.byprocessor.specs.Interrupts.{bound_of, on_processor, by_processor}
use Rattle.byprocessor.proofs.GroupLaws.{On, Each, by_loads, by_each, by_every}
use Rattle.rows.proofs.InterruptLaws.{divide_left, divide_right}
use Rattle.filed_claims.specs.Claims.{asks_on, GreatestOf}

-- ---- what they ask

-- of one processor: the demand of its own, in file order
asks_own : (p : ℕ) (is : List Interrupt) (t : ℕ) → asks_on p is t ≡ demand (map (λ (i : Interrupt). (bound_of i).load) (on_processor p is)) t
unfolding asks_on demand on_processor
asks_own p [] t = refl
asks_own p (i ∷ is) t =
    elim (ℕ_discrete i.processor p) [
      | yes e ↦ rw (eq-eqb i.processor p e, asks_own p is t)
      | no ne ↦ rw (ne_eqb i.processor p ne) (omega (arith, asks_own p is t))
    ]

asks_by : (m p : ℕ) (is : List Interrupt) (t : ℕ) → 1 ≤ p → p ≤ m → asks_on p is t ≡ interrupt_demand p (by_processor m is) t
unfolding interrupt_demand
asks_by m p is t some l = asks_own p is t ∙ ap (λ (ls : List Load). demand ls t) (sym (by_loads p m is some l))

-- over processors: the greatest
pub greatest_is : (m : ℕ) (is : List Interrupt) (t : ℕ) → 1 ≤ m → GreatestOf m is t (greatest m (by_processor m is) t)
greatest_is m is t some =
    let one = greatest_one m (by_processor m is) t some in
    record {
      most = λ p h l. omega (arith, asks_by m p is t h l, greatest_most m (by_processor m is) t p h l);
      one = (one.0, one.1, one.2, one.3 ∙ sym (asks_by m one.0 is t one.1 one.2));
    }

-- ---- where a deadline of theirs falls

-- one of a list is on its own processor
some_on : (P : Load → Type 0) (m : ℕ) (bs : List Bound) → EveryBound (λ (b : Bound). (1 ≤ b.processor) × (b.processor ≤ m)) bs → Some P (map (λ (b : Bound). b.load) bs) →
    (p : ℕ) × (1 ≤ p) × (p ≤ m) × Some P (bound_to p bs)
some_on P m [] on st = absurd st
some_on P m (b ∷ bs) on (inl h) = (b.processor, on.0.0, on.0.1, rw (bound_own b bs refl) (inl h))
some_on P m (b ∷ bs) on (inr st) =
    let rest = some_on P m bs on.1 st in
    let p = rest.0 in (
      p,
      rest.1,
      rest.2,
      elim (ℕ_discrete b.processor p) [
        | yes e ↦ rw (bound_own b bs e) (inr rest.3)
        | no ne ↦ rw (bound_other b bs ne) rest.3
      ],
    )

-- something is asked there
pub asked_there : (m : ℕ) (bs : List Bound) (x : ℕ) → EveryBound (λ (b : Bound). (1 ≤ b.processor) × (b.processor ≤ m)) bs → EveryBound (λ (b : Bound). Sound b.load) bs →
    Some (λ (l : Load). StepOf l x) (map (λ (b : Bound). b.load) bs) → 1 ≤ greatest m bs x
unfolding interrupt_demand
asked_there m bs x on sound st =
    let own = some_on (λ (l : Load). StepOf l x) m bs on st in
    let p = own.0 in
    omega (arith, some_steps (bound_to p bs) x (every_bound Sound p bs sound) own.3, greatest_most m bs x p own.1 own.2)

-- those by processor stand on processors 1 to m
pub by_on : (m : ℕ) (is : List Interrupt) → EveryBound (λ (b : Bound). (1 ≤ b.processor) × (b.processor ≤ m)) (by_processor m is)
by_on m is =
    bounds_map (λ (b : Bound). Unit {0} × (1 ≤ b.processor) × (b.processor ≤ m)) (λ (b : Bound). (1 ≤ b.processor) × (b.processor ≤ m)) (by_processor m is) (λ b x. (x.1, x.2))
    (by_each (λ i. Unit {0}) (λ b. Unit {0}) (λ i x. tt) m is (λ k l. tt))

-- ---- their periods

divide_each : (is : List Interrupt) (n : ℕ) → Each (λ (i : Interrupt). i.period ∣ n) is → Divide (map (λ (i : Interrupt). i.period) is) n
divide_each [] n all k l = absurd (omega arith)
divide_each (i ∷ is) n all zero l = all 0 (omega arith)
divide_each (i ∷ is) n all (suc k) l = divide_each is n (λ j h. all (suc j) (omega arith)) k (omega arith)

each_divide : (is : List Interrupt) (n : ℕ) → Divide (map (λ (i : Interrupt). i.period) is) n → Each (λ (i : Interrupt). i.period ∣ n) is
each_divide [] n d k l = absurd (omega arith)
each_divide (i ∷ is) n d zero l = d 0 (omega arith)
each_divide (i ∷ is) n d (suc k) l = each_divide is n (λ j h. d (suc j) (omega arith)) k (omega arith)

divide_bounds : (bs : List Bound) (n : ℕ) → EveryBound (λ (b : Bound). b.load.period ∣ n) bs → Divide (map (λ (b : Bound). b.load.period) bs) n
divide_bounds [] n all k l = absurd (omega arith)
divide_bounds (b ∷ bs) n all zero l = all.0
divide_bounds (b ∷ bs) n all (suc k) l = divide_bounds bs n all.1 k (omega arith)

bounds_divide : (bs : List Bound) (n : ℕ) → Divide (map (λ (b : Bound). b.load.period) bs) n → EveryBound (λ (b : Bound). b.load.period ∣ n) bs
bounds_divide [] n d = tt
bounds_divide (b ∷ bs) n d = (d 0 (omega arith), bounds_divide bs n (λ j h. d (suc j) (omega arith)))

divide_both : (ms ns : List ℕ) (n : ℕ) → Divide ms n → Divide ns n → Divide (ms ++ ns) n
divide_both [] ns n d e k l = e k l
divide_both (m ∷ ms) ns n d e zero l = d 0 (omega arith)
divide_both (m ∷ ms) ns n d e (suc k) l = divide_both ms ns n (λ j h. d (suc j) (omega arith)) e k (omega arith)

-- a least common multiple with the periods by processor is one with those in file order
pub least_in_order : (S : ℕ) (ps : List ℕ) (m : ℕ) (is : List Interrupt) (H : ℕ) → Each (On m) is →
    LeastMultipleOf S (ps ++ map (λ (b : Bound). b.load.period) (by_processor m is)) H → LeastMultipleOf S (ps ++ map (λ (i : Interrupt). i.period) is) H
least_in_order S ps m is H on least = record {
  of_first = least.of_first;
  of_others =
      divide_both ps in_order H (divide_left ps by H least.of_others)
      (divide_each is H (by_every (λ (b : Bound). b.load.period ∣ H) m is on (bounds_divide (by_processor m is) H (divide_right ps by H least.of_others))));
  least = λ n first others.
      least.least n first
      (divide_both ps by n (divide_left ps in_order n others)
      (divide_bounds (by_processor m is) n
      (bounds_map (λ (b : Bound). (b.load.period ∣ n) × (1 ≤ b.processor) × (b.processor ≤ m)) (λ (b : Bound). b.load.period ∣ n) (by_processor m is) (λ b x. x.0)
      (by_each (λ (i : Interrupt). i.period ∣ n) (λ (b : Bound). b.load.period ∣ n) (λ i x. x) m is (each_divide is n (divide_right ps in_order n others))))));
}
  where
    by : List ℕ
    by = map (λ (b : Bound). b.load.period) (by_processor m is)

    in_order : List ℕ
    in_order = map (λ (i : Interrupt). i.period) is
