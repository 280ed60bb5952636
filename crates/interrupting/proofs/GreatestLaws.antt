-- Laws of what interrupts ask: by processor, and the greatest over processors.
-- Assumes nothing.
use Prim.Native.Nat.{ℕ, zero, suc, ◌+◌, ◌*◌, ◌^◌, ◌≤◌, ◌<◌, ◌∣◌, max}
use mathlib.Core.Path.{◌≡◌, refl, ap, sym, ◌∙◌}
use mathlib.Core.List.{List, [], ◌∷◌, ◌++◌, map}
use mathlib.Core.Logic.{inl, inr, ⊎_elim}
use native.Mathlib.Nat.{le_refl, le_trans, le-suc_iff, mul-le-mul_right}
use native.Mathlib.Omega.{arith}
use lib.Arith.{le-zero}
use lib.ListN.{length}
use Rattle.laws.proofs.Orders.{le_or_lt}
use Rattle.demand.specs.Load.{Load, Sound, Small}
use Rattle.demand.specs.Demand.{jobs, demand}
use Rattle.demand.specs.Lawful.{Rising, RisesAt}
use Rattle.demand.specs.Steps.{StepOf, Step}
use Rattle.demand.proofs.Demand.{demand_nil, demand_snoc, demand_mono, demand_zero, demand_turn, demand_small, most_term}
use Rattle.demand.proofs.Steps.{rises_at}
use Rattle.interrupting.specs.Interrupts.{Bound, EveryBound, Numbered, bound_to, interrupt_demand, greatest, greatest_of_all, highest}
use Rattle.interrupting.proofs.BoundLaws.{bounds_map, highest_snoc, bound_snoc_own, bound_snoc_other, bound_none, every_bound, some_bound, length_bound}

-- ---- by processor

-- what one load asks at a length
abbrev pub term : Load → ℕ → ℕ
term l t = l.cost * jobs l.deadline l.period t

-- one more of theirs adds its term, and one of another changes nothing
pub interrupt_own : (p : ℕ) (bs : List Bound) (b : Bound) (t : ℕ) → b.processor ≡ p →
    interrupt_demand p (bs ++ (b ∷ [])) t ≡ interrupt_demand p bs t + term b.load t
unfolding interrupt_demand
interrupt_own p bs b t e = ap (λ (ls : List Load). demand ls t) (bound_snoc_own bs b e) ∙ demand_snoc (bound_to p bs) b.load t

pub interrupt_other : (p : ℕ) (bs : List Bound) (b : Bound) (t : ℕ) → (b.processor ≡ p → ⊥) →
    interrupt_demand p (bs ++ (b ∷ [])) t ≡ interrupt_demand p bs t
unfolding interrupt_demand
interrupt_other p bs b t n = ap (λ (ls : List Load). demand ls t) (bound_snoc_other bs b n)

-- where there are none nothing is asked, nor is it above the highest processor
pub interrupt_nothing : (p t : ℕ) → interrupt_demand p [] t ≡ 0
unfolding interrupt_demand bound_to
interrupt_nothing p t = demand_nil t

pub interrupt_none : (p : ℕ) (bs : List Bound) (t : ℕ) → highest bs < p → interrupt_demand p bs t ≡ 0
unfolding interrupt_demand
interrupt_none p bs t h = ap (λ (ls : List Load). demand ls t) (bound_none p bs h) ∙ demand_nil t

pub interrupt_rising : (p : ℕ) (bs : List Bound) → EveryBound (λ (b : Bound). Sound b.load) bs → Rising (interrupt_demand p bs)
unfolding interrupt_demand
interrupt_rising p bs sound t u h = demand_mono (bound_to p bs) (every_bound Sound p bs sound) h

-- few small interrupts leave room
pub interrupt_small : (p : ℕ) (bs : List Bound) (t : ℕ) → EveryBound Numbered bs → t < 2 ^ 36 → interrupt_demand p bs t ≤ length bs * most_term
unfolding interrupt_demand
interrupt_small p bs t e h =
    le_trans
    (demand_small (bound_to p bs) t (every_bound Sound p bs (bounds_map Numbered (λ (b : Bound). Sound b.load) bs (λ b n. n.sound) e)) (every_bound Small p bs (bounds_map Numbered (λ (b : Bound). Small b.load) bs (λ b n. n.small) e)) h)
    (mul-le-mul_right most_term (length_bound p bs))

-- ---- the greatest

pub greatest_most : (m : ℕ) (bs : List Bound) (t p : ℕ) → 1 ≤ p → p ≤ m → interrupt_demand p bs t ≤ greatest m bs t
unfolding greatest
greatest_most zero bs t p h g = absurd (omega arith)
greatest_most (suc m) bs t p h g =
    ⊎_elim
    (λ (le : p ≤ m). omega (arith, greatest_most m bs t p h le))
    (λ (e : p ≡ suc m). omega (arith, ap (λ (q : ℕ). interrupt_demand q bs t) e))
    (le-suc_iff.0 g)

-- it is some processor's, or 0 where there is none
pub greatest_one : (m : ℕ) (bs : List Bound) (t : ℕ) → 1 ≤ m → (p : ℕ) × (1 ≤ p) × (p ≤ m) × (greatest m bs t ≡ interrupt_demand p bs t)
unfolding greatest
greatest_one zero bs t h = absurd (omega arith)
greatest_one (suc zero) bs t h = (1, omega arith, omega arith, omega arith)
greatest_one (suc (suc m)) bs t h =
    let before = greatest_one (suc m) bs t (omega arith) in
    ⊎_elim
    (λ (le : interrupt_demand (suc (suc m)) bs t ≤ greatest (suc m) bs t). (before.0, before.1, omega (arith, before.2), omega (arith, before.3)))
    (λ (lt : greatest (suc m) bs t < interrupt_demand (suc (suc m)) bs t). (suc (suc m), omega arith, omega arith, omega arith))
    (le_or_lt (interrupt_demand (suc (suc m)) bs t) (greatest (suc m) bs t))

-- processors above the highest change nothing
pub greatest_past : (p m : ℕ) (bs : List Bound) (t : ℕ) → highest bs ≤ p → p ≤ m → greatest m bs t ≡ greatest p bs t
unfolding greatest
greatest_past p zero bs t h g = ap (λ (q : ℕ). greatest q bs t) (sym (le-zero g))
greatest_past p (suc m) bs t h g =
    ⊎_elim
    (λ (le : p ≤ m). omega (arith, greatest_past p m bs t h le, interrupt_none (suc m) bs t (omega arith)))
    (λ (e : p ≡ suc m). sym (ap (λ (q : ℕ). greatest q bs t) e))
    (le-suc_iff.0 g)

pub greatest_all : (m : ℕ) (bs : List Bound) → highest bs ≤ m → greatest m bs ≡ greatest_of_all bs
unfolding greatest_of_all
greatest_all m bs h i t = greatest_past (highest bs) m bs t (le_refl (highest bs)) h i

-- one more interrupt changes nothing below its processor
greatest_below : (m : ℕ) (bs : List Bound) (b : Bound) (t : ℕ) → m < b.processor → greatest m (bs ++ (b ∷ [])) t ≡ greatest m bs t
unfolding greatest
greatest_below zero bs b t h = refl
greatest_below (suc m) bs b t h =
    omega (arith, greatest_below m bs b t (omega arith), interrupt_other (suc m) bs b t (λ (e : b.processor ≡ suc m). omega arith))

greatest_own : (p : ℕ) (bs : List Bound) (b : Bound) (t : ℕ) → b.processor ≡ p → 1 ≤ p →
    greatest p (bs ++ (b ∷ [])) t ≡ max (greatest p bs t) (interrupt_demand p (bs ++ (b ∷ [])) t)
unfolding greatest
greatest_own zero bs b t e h = absurd (omega arith)
greatest_own (suc p) bs b t e h = omega (arith, greatest_below p bs b t (omega arith), interrupt_own (suc p) bs b t e)

-- and where its processor is the highest, the greatest is what it was, or its processor's
pub greatest_next : (bs : List Bound) (b : Bound) (t : ℕ) → 1 ≤ b.processor → highest bs ≤ b.processor →
    greatest_of_all (bs ++ (b ∷ [])) t ≡ max (greatest_of_all bs t) (interrupt_demand b.processor (bs ++ (b ∷ [])) t)
unfolding greatest_of_all
greatest_next bs b t h g =
    let top : highest (bs ++ (b ∷ [])) ≡ b.processor = omega (arith, highest_snoc bs b) in
    ap (λ (p : ℕ). greatest p (bs ++ (b ∷ [])) t) top ∙ greatest_own b.processor bs b t refl h ∙
    ap (λ (w : ℕ). max w (interrupt_demand b.processor (bs ++ (b ∷ [])) t)) (greatest_past (highest bs) b.processor bs t (le_refl (highest bs)) g)

pub greatest_nothing : (t : ℕ) → greatest_of_all [] t ≡ 0
unfolding greatest_of_all highest greatest
greatest_nothing t = refl

-- ---- it is lawful

module _ (bs : List Bound) (sound : EveryBound (λ (b : Bound). Sound b.load) bs) where
  theirs : (p : ℕ) → Rising (interrupt_demand p bs)
  theirs p = interrupt_rising p bs sound

  pub greatest_rising : (m : ℕ) → Rising (greatest m bs)
  unfolding greatest
  greatest_rising zero t u h = le_refl 0
  greatest_rising (suc m) t u h = omega (arith, greatest_rising m t u h, theirs (suc m) t u h)

  pub greatest_zero : (m : ℕ) → greatest m bs 0 ≡ 0
  unfolding greatest interrupt_demand
  greatest_zero zero = refl
  greatest_zero (suc m) = omega (arith, greatest_zero m, demand_zero (bound_to (suc m) bs) (every_bound Sound (suc m) bs sound))

  pub greatest_turns : (m H : ℕ) → EveryBound (λ (b : Bound). b.load.period ∣ H) bs → (t : ℕ) → greatest m bs (t + H) ≤ greatest m bs t + greatest m bs H
  unfolding greatest interrupt_demand
  greatest_turns zero H v t = omega arith
  greatest_turns (suc m) H v t =
      omega (
        arith,
        greatest_turns m H v t,
        demand_turn (bound_to (suc m) bs) t H (every_bound Sound (suc m) bs sound) (every_bound (λ (l : Load). l.period ∣ H) (suc m) bs v),
      )

  pub greatest_steps : (m : ℕ) → RisesAt (Step (map (λ (b : Bound). b.load) bs)) (greatest m bs)
  unfolding greatest interrupt_demand
  greatest_steps zero t = inr (le_refl 0)
  greatest_steps (suc m) t =
      ⊎_elim
      (λ (st : Step (map (λ (b : Bound). b.load) bs) (suc t)). inl st)
      (λ (h : greatest m bs (suc t) ≤ greatest m bs t).
      ⊎_elim
      (λ (st : Step (bound_to (suc m) bs) (suc t)). inl (st.0, some_bound (λ (l : Load). StepOf l (suc t)) (suc m) bs st.1))
      (λ (g : demand (bound_to (suc m) bs) (suc t) ≤ demand (bound_to (suc m) bs) t). inr (omega arith))
      (rises_at (bound_to (suc m) bs) (every_bound Sound (suc m) bs sound) t))
      (greatest_steps m t)

-- few small interrupts leave room
pub greatest_small : (m : ℕ) (bs : List Bound) (t : ℕ) → EveryBound Numbered bs → t < 2 ^ 36 → greatest m bs t ≤ length bs * most_term
unfolding greatest
greatest_small zero bs t e h = omega arith
greatest_small (suc m) bs t e h = omega (arith, greatest_small m bs t e h, interrupt_small (suc m) bs t e h)
