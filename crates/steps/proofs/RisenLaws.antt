-- The last step of loads, load by load, and of the greatest over processors, interrupt by interrupt: what holds after each.
-- Assumes nothing.
use Prim.Native.Nat.{ℕ, ◌+◌, ◌≤◌, ◌<◌, max}
use mathlib.Core.Path.{◌≡◌, refl, ap, sym, ◌∙◌}
use mathlib.Core.List.{List, [], ◌∷◌, ◌++◌}
use native.Mathlib.Nat.{mul-le-mul_left}
use native.Mathlib.Omega.{arith}
use Rattle.demand.specs.Load.{Load, Sound, Every}
use Rattle.demand.specs.Demand.{jobs, demand}
use Rattle.demand.specs.Lawful.{Rising}
use Rattle.demand.proofs.Demand.{demand_snoc, demand_mono}
use Rattle.interrupting.specs.Interrupts.{Bound, EveryBound, bound_to, interrupt_demand, greatest_of_all, highest}
use Rattle.interrupting.proofs.BoundLaws.{bounds_snoc, bound_snoc_own, every_bound}
use Rattle.interrupting.proofs.GreatestLaws.{term, interrupt_nothing, interrupt_none, interrupt_rising, greatest_rising, greatest_next, greatest_nothing}
use Rattle.interrupting.proofs.ReachedLaws.{Reached, reached_none, reached_same, reached_next}
use Rattle.search.specs.Search.{last_up_to}
use Rattle.steps.specs.Stepping.{steps, last_of_greater}
use Rattle.steps.proofs.LastLaws.{last_by, last_together, last_greater, last_term, jobs_rising}

-- the last step of a demand
abbrev pub last_of : (g : ℕ → ℕ) → (hi : ℕ) → ℕ
last_of g hi = last_up_to (steps g) hi

-- demands that agree at every length have it in common
last_same : (f g : ℕ → ℕ) (hi : ℕ) → ((t : ℕ) → f t ≡ g t) → last_of f hi ≡ last_of g hi
last_same f g hi same = ap (λ (h : ℕ → ℕ). last_of h hi) (λ i t. same t i)

-- one that never asks has none
pub last_nothing : (g : ℕ → ℕ) (hi : ℕ) → ((t : ℕ) → g t ≡ 0) → last_of g hi ≡ 0
last_nothing g hi none =
    last_by g hi (λ t u h. omega (arith, none t, none u)) 0
    (record { within = omega arith; comes = omega (arith, none hi, none 0); steps = λ (k : 1 ≤ 0). absurd (omega arith) })

-- ---- loads

-- one more: the larger of the last so far and its own
pub last_snoc : (ls : List Load) (l : Load) (hi : ℕ) → Every Sound ls → Sound l →
    last_of (demand (ls ++ (l ∷ []))) hi ≡ max (last_of (demand ls) hi) (last_of (jobs l.deadline l.period) hi)
last_snoc ls l hi sound s =
    let own : Rising (term l) = λ t u h. mul-le-mul_left l.cost (jobs_rising l.deadline l.period hi s.due s.constrained t u h) in
    last_same (demand (ls ++ (l ∷ []))) (λ t. demand ls t + term l t) hi (demand_snoc ls l) ∙
    last_together (demand ls) (term l) hi (λ t u h. demand_mono ls sound h) own ∙
    ap (max (last_of (demand ls) hi)) (last_term l.deadline l.period hi s.due s.constrained l.cost s.some)

-- ---- interrupts

-- beside what `Reached` says: the last step of the processor's interrupts, and that of the greatest
pub record Risen (bs : List Bound) (hi processor sum last greatest risen : ℕ) : Type 0 where
  pub reached : Reached bs hi processor sum greatest
  pub own : last ≡ last_of (interrupt_demand processor bs) hi
  pub rises : risen ≡ last_of (greatest_of_all bs) hi

pub risen_none : (hi : ℕ) → Risen [] hi 0 0 0 0 0
risen_none hi =
    record {
      reached = reached_none hi;
      own = sym (last_nothing (interrupt_demand 0 []) hi (interrupt_nothing 0));
      rises = sym (last_nothing (greatest_of_all []) hi greatest_nothing);
    }

-- the last step so far of the next one's processor: none where it is a new one
module _ {bs : List Bound} {hi p sum last greatest risen : ℕ} (r : Risen bs hi p sum last greatest risen) (q : ℕ) where
  pub risen_new : p < q → 0 ≡ last_of (interrupt_demand q bs) hi
  risen_new h = sym (last_nothing (interrupt_demand q bs) hi (λ t. interrupt_none q bs t (omega (arith, r.reached.top))))

  pub risen_same : q ≤ p → highest bs ≤ q → last ≡ last_of (interrupt_demand q bs) hi
  risen_same h g = r.own ∙ ap (λ (k : ℕ). last_of (interrupt_demand k bs) hi) (reached_same r.reached q h g).0

module _ (bs : List Bound) (b : Bound) (hi : ℕ) (sound : EveryBound (λ (c : Bound). Sound c.load) bs) (s : Sound b.load) where
  -- one more on its processor
  last_own : last_of (interrupt_demand b.processor (bs ++ (b ∷ []))) hi ≡
      max (last_of (interrupt_demand b.processor bs) hi) (last_of (jobs b.load.deadline b.load.period) hi)
  unfolding interrupt_demand
  last_own =
      ap (λ (ls : List Load). last_of (demand ls) hi) (bound_snoc_own bs b refl) ∙
      last_snoc (bound_to b.processor bs) b.load hi (every_bound Sound b.processor bs sound) s

  of_all_rises : Rising (greatest_of_all bs)
  unfolding greatest_of_all
  of_all_rises = greatest_rising bs sound (highest bs)

  -- and of all
  last_all : 1 ≤ b.processor → highest bs ≤ b.processor →
      last_of (greatest_of_all (bs ++ (b ∷ []))) hi ≡
      last_of_greater (greatest_of_all bs hi) (last_of (greatest_of_all bs) hi) (interrupt_demand b.processor (bs ++ (b ∷ [])) hi) (last_of (interrupt_demand b.processor (bs ++ (b ∷ []))) hi)
  last_all h g =
      let theirs = interrupt_demand b.processor (bs ++ (b ∷ [])) in
      last_same (greatest_of_all (bs ++ (b ∷ []))) (λ t. max (greatest_of_all bs t) (theirs t)) hi (λ t. greatest_next bs b t h g) ∙
      last_greater (greatest_of_all bs) theirs hi of_all_rises
      (interrupt_rising b.processor (bs ++ (b ∷ [])) (bounds_snoc (λ (c : Bound). Sound c.load) bs b sound s))

-- one more: its term and its last deadline come to its processor's, and the greater of that and of what was before decides
pub risen_next : {bs : List Bound} {hi p sum last greatest risen : ℕ} (r : Risen bs hi p sum last greatest risen)
    (sound : EveryBound (λ (c : Bound). Sound c.load) bs) (b : Bound) (s : Sound b.load) (base base-last sum' last' greatest' risen' : ℕ) →
    1 ≤ b.processor → highest bs ≤ b.processor → base ≡ interrupt_demand b.processor bs hi → base-last ≡ last_of (interrupt_demand b.processor bs) hi →
    sum' ≡ base + term b.load hi → last' ≡ max base-last (last_of (jobs b.load.deadline b.load.period) hi) →
    greatest' ≡ max greatest sum' → risen' ≡ last_of_greater greatest risen sum' last' →
    Risen (bs ++ (b ∷ [])) hi b.processor sum' last' greatest' risen'
risen_next {bs} {hi} {p} {sum} {last} {greatest} {risen} r sound b s base base-last sum' last' greatest' risen' h g eb el es eo eg er =
    let reached : Reached (bs ++ (b ∷ [])) hi b.processor sum' greatest' = reached_next r.reached b base sum' greatest' h g eb es eg in
    let own : last' ≡ last_of (interrupt_demand b.processor (bs ++ (b ∷ []))) hi =
    eo ∙ ap (λ (x : ℕ). max x (last_of (jobs b.load.deadline b.load.period) hi)) el ∙ sym (last_own bs b hi sound s) in
    record {
      reached = reached;
      own = own;
      rises =
          er ∙
          ap (λ (x : ℕ). last_of_greater x risen sum' last') r.reached.greatest ∙
          ap (λ (x : ℕ). last_of_greater (greatest_of_all bs hi) x sum' last') r.rises ∙
          ap (λ (x : ℕ). last_of_greater (greatest_of_all bs hi) (last_of (greatest_of_all bs) hi) x last') reached.summed ∙
          ap (λ (x : ℕ). last_of_greater (greatest_of_all bs hi) (last_of (greatest_of_all bs) hi) (interrupt_demand b.processor (bs ++ (b ∷ [])) hi) x) own ∙
          sym (last_all bs b hi sound s h g);
    }
