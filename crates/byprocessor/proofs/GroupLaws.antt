-- Interrupts by processor: how many they are, what each is, their order, and the loads of each processor.
-- Assumes nothing.
use Prim.Native.Nat.{ℕ, zero, suc, ◌≤◌, ◌<◌}
use mathlib.Core.Path.{◌≡◌, refl, sym, ap, ap₂, subst, ◌∙◌}
use mathlib.Core.Logic.{◌⊎◌, inl, inr, ⊎_elim}
use mathlib.Core.List.{List, [], ◌∷◌, ◌++◌, map, append-nil}
use native.Mathlib.Omega.{arith}
use native.Mathlib.Decide.{ℕ_discrete}
use borrow.Author.Tests.{eq-eqb, ne_eqb}
use lib.ListN.{length, take, drop, get_or, length-append, take-append-drop}
use Rattle.laws.proofs.Choices.{cond_true, cond_false}
use Rattle.laws.proofs.Orders.{le_or_lt}
use Rattle.demand.specs.Load.{Load}
use Rattle.interrupting.specs.Interrupts.{Bound, EveryBound, Ordered, bound_to}
use Rattle.interrupting.proofs.BoundLaws.{bounds_append, bounds_map, ordered_join}
use Rattle.tasks.specs.declared.set.Interrupt.{Interrupt}
use Rattle.tasks.specs.Set.{zero_interrupt}
use Rattle.byprocessor.specs.Interrupts.{bound_of, on_processor, by_processor}

-- ---- those of one processor

module _ (p : ℕ) (i : Interrupt) (is : List Interrupt) where
  pub on_here : i.processor ≡ p → on_processor p (i ∷ is) ≡ i ∷ on_processor p is
  unfolding on_processor
  on_here e = cond_true (i ∷ on_processor p is) (on_processor p is) (eq-eqb i.processor p e)

  pub on_other : (i.processor ≡ p → ⊥) → on_processor p (i ∷ is) ≡ on_processor p is
  unfolding on_processor
  on_other ne = cond_false (i ∷ on_processor p is) (on_processor p is) (ne_eqb i.processor p ne)

-- one behind the other
pub on_append : (p : ℕ) (is js : List Interrupt) → on_processor p (is ++ js) ≡ on_processor p is ++ on_processor p js
unfolding on_processor
on_append p [] js = refl
on_append p (i ∷ is) js =
    elim (ℕ_discrete i.processor p) [
      | yes e ↦
          on_here p i (is ++ js) e ∙ ap (λ (ks : List Interrupt). i ∷ ks) (on_append p is js)
          ∙ ap (λ (ks : List Interrupt). ks ++ on_processor p js) (sym (on_here p i is e))
      | no ne ↦ on_other p i (is ++ js) ne ∙ on_append p is js ∙ ap (λ (ks : List Interrupt). ks ++ on_processor p js) (sym (on_other p i is ne))
    ]

-- fewer among the first
pub on_taken : (p k : ℕ) (is : List Interrupt) → length (on_processor p (take k is)) ≤ length (on_processor p is)
on_taken p k is =
    omega (
      arith,
      length-append (on_processor p (take k is)) (on_processor p (drop k is)),
      ap length (sym (on_append p (take k is) (drop k is)) ∙ ap (on_processor p) (take-append-drop k is)),
    )

-- ---- how many they are

module _ (i : Interrupt) (is : List Interrupt) where
  by_past : (m : ℕ) → (i.processor ≡ 0) ⊎ (m < i.processor) → by_processor m (i ∷ is) ≡ by_processor m is
  unfolding by_processor
  by_past zero h = refl
  by_past (suc m) h = ap₂ (λ (bs : List Bound) (js : List Interrupt). bs ++ map bound_of js) (by_past m (lower h)) (on_other (suc m) i is (other h))
    where
      lower : (i.processor ≡ 0) ⊎ (suc m < i.processor) → (i.processor ≡ 0) ⊎ (m < i.processor)
      lower (inl e) = inl e
      lower (inr l) = inr (omega arith)

      other : (i.processor ≡ 0) ⊎ (suc m < i.processor) → i.processor ≡ suc m → ⊥
      other (inl e) here = omega arith
      other (inr l) here = omega arith

  by_here : (m : ℕ) → 1 ≤ i.processor → i.processor ≤ m → length (by_processor m (i ∷ is)) ≡ suc (length (by_processor m is))
  unfolding by_processor
  by_here zero some h = absurd (omega arith)
  by_here (suc m) some h =
      elim (ℕ_discrete i.processor (suc m)) [
        | yes e ↦
            omega (
              arith,
              length-append (by_processor m (i ∷ is)) (map bound_of (on_processor (suc m) (i ∷ is))),
              length-append (by_processor m is) (map bound_of (on_processor (suc m) is)),
              ap length (by_past m (inr (omega (arith, e)))),
              ap (λ (js : List Interrupt). length (map bound_of js)) (on_here (suc m) i is e),
            )
        | no ne ↦
            omega (
              arith,
              length-append (by_processor m (i ∷ is)) (map bound_of (on_processor (suc m) (i ∷ is))),
              length-append (by_processor m is) (map bound_of (on_processor (suc m) is)),
              by_here m some (omega (arith, h, ne)),
              ap (λ (js : List Interrupt). length (map bound_of js)) (on_other (suc m) i is ne),
            )
      ]

pub by_none : (m : ℕ) → by_processor m [] ≡ []
unfolding by_processor on_processor
by_none zero = refl
by_none (suc m) = rw (by_none m)

-- no more than there are
pub by_few : (m : ℕ) (is : List Interrupt) → length (by_processor m is) ≤ length is
by_few m [] = omega (arith, ap length (by_none m))
by_few m (i ∷ is) =
    elim (ℕ_discrete i.processor 0) [
      | yes e ↦ omega (arith, ap length (by_past i is m (inl e)), by_few m is)
      | no ne ↦
          ⊎_elim
          (λ (l : i.processor ≤ m). omega (arith, by_here i is m (omega (arith, ne)) l, by_few m is))
          (λ (l : m < i.processor). omega (arith, ap length (by_past i is m (inr l)), by_few m is))
          (le_or_lt i.processor m)
    ]

-- an interrupt of one of the processors 1 to m
abbrev pub On : ℕ → Interrupt → Type 0
On m i = (1 ≤ i.processor) × (i.processor ≤ m)

-- what holds of each, by places
abbrev pub Each : (Interrupt → Type 0) → List Interrupt → Type 0
Each P is = (k : ℕ) → k < length is → P (get_or is k zero_interrupt)

-- all of them, where all stand on these processors
pub by_all : (m : ℕ) (is : List Interrupt) → Each (On m) is → length (by_processor m is) ≡ length is
by_all m [] on = ap length (by_none m)
by_all m (i ∷ is) on =
    let here = on 0 (omega arith) in
    omega (arith, by_here i is m here.0 here.1, by_all m is (λ k l. on (suc k) (omega arith)))

-- ---- what each is, and their order

-- what holds of each of two lists together holds of each of both
bounds_parts : (Q : Bound → Type 0) (bs cs : List Bound) → EveryBound Q (bs ++ cs) → EveryBound Q bs × EveryBound Q cs
bounds_parts Q [] cs all = (tt, all)
bounds_parts Q (b ∷ bs) cs all = let rest = bounds_parts Q bs cs all.1 in ((all.0, rest.0), rest.1)

module _ (P : Interrupt → Type 0) (Q : Bound → Type 0) (pq : (i : Interrupt) → P i → Q (bound_of i)) where
  on_each : (p : ℕ) (is : List Interrupt) → Each P is → EveryBound (λ (b : Bound). Q b × (b.processor ≡ p)) (map bound_of (on_processor p is))
  unfolding on_processor
  on_each p [] all = tt
  on_each p (i ∷ is) all =
      let rest = on_each p is (λ k l. all (suc k) (omega arith)) in
      elim (ℕ_discrete i.processor p) [
        | yes e ↦ rw (on_here p i is e) ((pq i (all 0 (omega arith)), e), rest)
        | no ne ↦ rw (on_other p i is ne) rest
      ]

  -- each of them is one of the interrupts, on a processor from 1 to m
  pub by_each : (m : ℕ) (is : List Interrupt) → Each P is → EveryBound (λ (b : Bound). Q b × (1 ≤ b.processor) × (b.processor ≤ m)) (by_processor m is)
  unfolding by_processor
  by_each zero is all = tt
  by_each (suc m) is all =
      bounds_append R (by_processor m is) (map bound_of (on_processor (suc m) is))
      (bounds_map (λ (b : Bound). Q b × (1 ≤ b.processor) × (b.processor ≤ m)) R (by_processor m is) (λ b x. (x.0, x.1, omega (arith, x.2))) (by_each m is all))
      (bounds_map (λ (b : Bound). Q b × (b.processor ≡ suc m)) R (map bound_of (on_processor (suc m) is)) (λ b x. (x.0, omega (arith, x.1), omega (arith, x.1))) (on_each (suc m) is all))
    where
      R : Bound → Type 0
      R b = Q b × (1 ≤ b.processor) × (b.processor ≤ suc m)

-- each of the interrupts is one of them, where all stand on these processors
module _ (Q : Bound → Type 0) where
  on_at : (p : ℕ) (is : List Interrupt) → EveryBound Q (map bound_of (on_processor p is)) → (k : ℕ) → k < length is → (get_or is k zero_interrupt).processor ≡ p →
      Q (bound_of (get_or is k zero_interrupt))
  on_at p [] all k l e = absurd (omega arith)
  on_at p (i ∷ is) all zero l e =
      let own : EveryBound Q (map bound_of (i ∷ on_processor p is)) = subst (λ (js : List Interrupt). EveryBound Q (map bound_of js)) (on_here p i is e) all in
      own.0
  on_at p (i ∷ is) all (suc k) l e =
      elim (ℕ_discrete i.processor p) [
        | yes h ↦
            let own : EveryBound Q (map bound_of (i ∷ on_processor p is)) = subst (λ (js : List Interrupt). EveryBound Q (map bound_of js)) (on_here p i is h) all in
            on_at p is own.1 k (omega arith) e
        | no ne ↦ on_at p is (subst (λ (js : List Interrupt). EveryBound Q (map bound_of js)) (on_other p i is ne) all) k (omega arith) e
      ]

  by_part : (m : ℕ) (is : List Interrupt) → EveryBound Q (by_processor m is) → (p : ℕ) → 1 ≤ p → p ≤ m → EveryBound Q (map bound_of (on_processor p is))
  unfolding by_processor
  by_part zero is all p some l = absurd (omega arith)
  by_part (suc m) is all p some l =
      let parts = bounds_parts Q (by_processor m is) (map bound_of (on_processor (suc m) is)) all in
      elim (ℕ_discrete p (suc m)) [
        | yes e ↦ subst (λ (n : ℕ). EveryBound Q (map bound_of (on_processor n is))) (sym e) parts.1
        | no ne ↦ by_part m is parts.0 p some (omega (arith, ne))
      ]

  pub by_every : (m : ℕ) (is : List Interrupt) → Each (On m) is → EveryBound Q (by_processor m is) → Each (λ (i : Interrupt). Q (bound_of i)) is
  by_every m is on all k l =
      let i = get_or is k zero_interrupt in
      on_at i.processor is (by_part m is all i.processor (on k l).0 (on k l).1) k l refl

-- whatever holds of all interrupts
any : (is : List Interrupt) → Each (λ (i : Interrupt). Unit {0}) is
any is k l = tt

-- those of one processor are in order
ordered_one : (p : ℕ) (bs : List Bound) → EveryBound (λ (b : Bound). b.processor ≡ p) bs → Ordered bs
ordered_one p [] x = tt
ordered_one p (b ∷ bs) x = (bounds_map (λ (c : Bound). c.processor ≡ p) (λ (c : Bound). b.processor ≤ c.processor) bs (λ c e. omega (arith, e, x.0)) x.1, ordered_one p bs x.1)

pub by_ordered : (m : ℕ) (is : List Interrupt) → Ordered (by_processor m is)
unfolding by_processor
by_ordered zero is = tt
by_ordered (suc m) is =
    ordered_join m (by_processor m is) last (by_ordered m is) (ordered_one (suc m) last own)
    (bounds_map (λ (b : Bound). Unit {0} × (1 ≤ b.processor) × (b.processor ≤ m)) (λ (b : Bound). b.processor ≤ m) (by_processor m is) (λ b x. x.2) (by_each (λ i. Unit {0}) (λ b. Unit {0}) (λ i x. tt) m is (any is)))
    (bounds_map (λ (b : Bound). b.processor ≡ suc m) (λ (b : Bound). m ≤ b.processor) last (λ b e. omega (arith, e)) own)
  where
    last : List Bound
    last = map bound_of (on_processor (suc m) is)

    own : EveryBound (λ (b : Bound). b.processor ≡ suc m) last
    own = bounds_map (λ (b : Bound). Unit {0} × (b.processor ≡ suc m)) (λ (b : Bound). b.processor ≡ suc m) last (λ b x. x.1) (on_each (λ i. Unit {0}) (λ b. Unit {0}) (λ i x. tt) (suc m) is (any is))

-- ---- the loads of one processor

to_append : (p : ℕ) (cs bs : List Bound) → bound_to p (cs ++ bs) ≡ bound_to p cs ++ bound_to p bs
unfolding bound_to
to_append p [] bs = refl
to_append p (a ∷ cs) bs =
    elim (ℕ_discrete a.processor p) [
      | yes e ↦ rw (eq-eqb a.processor p e, to_append p cs bs)
      | no ne ↦ rw (ne_eqb a.processor p ne, to_append p cs bs)
    ]

-- of those of one processor all, or none
to_own : (p : ℕ) (is : List Interrupt) → bound_to p (map bound_of (on_processor p is)) ≡ map (λ (i : Interrupt). (bound_of i).load) (on_processor p is)
unfolding bound_to on_processor
to_own p [] = refl
to_own p (i ∷ is) =
    elim (ℕ_discrete i.processor p) [
      | yes e ↦ rw (on_here p i is e, eq-eqb i.processor p e, to_own p is)
      | no ne ↦ rw (on_other p i is ne, to_own p is)
    ]

to_other : (p q : ℕ) (is : List Interrupt) → (p ≡ q → ⊥) → bound_to p (map bound_of (on_processor q is)) ≡ []
unfolding bound_to on_processor
to_other p q [] ne = refl
to_other p q (i ∷ is) ne =
    elim (ℕ_discrete i.processor q) [
      | yes e ↦ rw (on_here q i is e, ne_eqb i.processor p (λ h. ne (omega arith)), to_other p q is ne)
      | no other ↦ rw (on_other q i is other, to_other p q is ne)
    ]

to_past : (p m : ℕ) (is : List Interrupt) → m < p → bound_to p (by_processor m is) ≡ []
unfolding by_processor bound_to
to_past p zero is l = refl
to_past p (suc m) is l =
    to_append p (by_processor m is) (map bound_of (on_processor (suc m) is))
    ∙ ap₂ (λ (cs bs : List Load). cs ++ bs) (to_past p m is (omega arith)) (to_other p (suc m) is (λ e. omega arith))

-- they are those of the processor's own interrupts, in their order
pub by_loads : (p m : ℕ) (is : List Interrupt) → 1 ≤ p → p ≤ m → bound_to p (by_processor m is) ≡ map (λ (i : Interrupt). (bound_of i).load) (on_processor p is)
unfolding by_processor
by_loads p zero is some l = absurd (omega arith)
by_loads p (suc m) is some l =
    to_append p (by_processor m is) (map bound_of (on_processor (suc m) is)) ∙
    elim (ℕ_discrete p (suc m)) [
      | yes e ↦
          ap₂ (λ (cs bs : List Load). cs ++ bs) (to_past p m is (omega (arith, e))) (ap (λ (k : ℕ). bound_to p (map bound_of (on_processor k is))) (sym e) ∙ to_own p is)
      | no ne ↦
          ap₂ (λ (cs bs : List Load). cs ++ bs) (by_loads p m is some (omega (arith, ne))) (to_other p (suc m) is ne) ∙ append-nil (map (λ (i : Interrupt). (bound_of i).load) (on_processor p is))
    ]
