-- Laws of lists of interrupts: what holds of each, those of one processor, their highest processor, and their order.
-- Assumes nothing.
use Prim.Native.Nat.{ℕ, ◌≤◌, ◌<◌, max}
use mathlib.Core.Path.{◌≡◌, refl, ap, subst, sym, ◌∙◌}
use mathlib.Core.List.{List, [], ◌∷◌, ◌++◌, map}
use mathlib.Core.Logic.{inl, inr, ⊎_elim}
use native.Mathlib.Nat.{le_refl, le_trans}
use native.Mathlib.Omega.{arith}
use lib.ListN.{length}
use borrow.Author.Tests.{eq-eqb, ne_eqb}
use Rattle.laws.proofs.Orders.{eq_or_ne}
use Rattle.laws.proofs.Choices.{cond_true, cond_false}
use Rattle.demand.specs.Load.{Load, Every}
use Rattle.demand.specs.Steps.{Some}
use Rattle.interrupting.specs.Interrupts.{Bound, EveryBound, Ordered, bound_to, highest}

-- ---- what holds of each

module _ (P : Bound → Type 0) where
  pub bounds_snoc : (bs : List Bound) (b : Bound) → EveryBound P bs → P b → EveryBound P (bs ++ (b ∷ []))
  bounds_snoc [] b e p = (p, tt)
  bounds_snoc (c ∷ bs) b e p = (e.0, bounds_snoc bs b e.1 p)

  pub bounds_append : (bs cs : List Bound) → EveryBound P bs → EveryBound P cs → EveryBound P (bs ++ cs)
  bounds_append [] cs e f = f
  bounds_append (c ∷ bs) cs e f = (e.0, bounds_append bs cs e.1 f)

  pub bounds_front : (bs : List Bound) (b : Bound) → EveryBound P (bs ++ (b ∷ [])) → EveryBound P bs
  bounds_front [] b e = tt
  bounds_front (c ∷ bs) b e = (e.0, bounds_front bs b e.1)

  pub bounds_last : (bs : List Bound) (b : Bound) → EveryBound P (bs ++ (b ∷ [])) → P b
  bounds_last [] b e = e.0
  bounds_last (c ∷ bs) b e = bounds_last bs b e.1

  pub bounds_map : (Q : Bound → Type 0) (bs : List Bound) → ((b : Bound) → P b → Q b) → EveryBound P bs → EveryBound Q bs
  bounds_map Q [] f e = tt
  bounds_map Q (b ∷ bs) f e = (f b e.0, bounds_map Q bs f e.1)

-- ---- the highest processor

-- whatever none is above, it is not
pub highest_below : (m : ℕ) (bs : List Bound) → EveryBound (λ (b : Bound). b.processor ≤ m) bs → highest bs ≤ m
unfolding highest
highest_below m [] e = omega arith
highest_below m (b ∷ bs) e = omega (arith, e.0, highest_below m bs e.1)

pub highest_snoc : (bs : List Bound) (b : Bound) → highest (bs ++ (b ∷ [])) ≡ max (highest bs) b.processor
unfolding highest
highest_snoc [] b = omega arith
highest_snoc (c ∷ bs) b = omega (arith, highest_snoc bs b)

-- ---- the order

-- the last has the highest processor
pub ordered_last : (bs : List Bound) (b : Bound) → Ordered (bs ++ (b ∷ [])) → highest bs ≤ b.processor
unfolding highest
ordered_last [] b o = omega arith
ordered_last (c ∷ bs) b o =
    omega (arith, bounds_last (λ (d : Bound). c.processor ≤ d.processor) bs b o.0, ordered_last bs b o.1)

pub ordered_front : (bs : List Bound) (b : Bound) → Ordered (bs ++ (b ∷ [])) → Ordered bs
ordered_front [] b o = tt
ordered_front (c ∷ bs) b o = (bounds_front (λ (d : Bound). c.processor ≤ d.processor) bs b o.0, ordered_front bs b o.1)

-- two ordered lists stand in order where some number parts them
pub ordered_join : (p : ℕ) (bs cs : List Bound) → Ordered bs → Ordered cs → EveryBound (λ (b : Bound). b.processor ≤ p) bs →
    EveryBound (λ (c : Bound). p ≤ c.processor) cs → Ordered (bs ++ cs)
ordered_join p [] cs o q low high = q
ordered_join p (b ∷ bs) cs o q low high =
    let above : EveryBound (λ (c : Bound). b.processor ≤ c.processor) cs =
    bounds_map (λ (c : Bound). p ≤ c.processor) (λ (c : Bound). b.processor ≤ c.processor) cs (λ c h. le_trans low.0 h) high in
    (bounds_append (λ (c : Bound). b.processor ≤ c.processor) bs cs o.0 above, ordered_join p bs cs o.1 q low.1 high)

-- ---- those of one processor

pub bound_own : {p : ℕ} (b : Bound) (bs : List Bound) → b.processor ≡ p → bound_to p (b ∷ bs) ≡ b.load ∷ bound_to p bs
unfolding bound_to
bound_own {p} b bs e = cond_true (b.load ∷ bound_to p bs) (bound_to p bs) (eq-eqb b.processor p e)

pub bound_other : {p : ℕ} (b : Bound) (bs : List Bound) → (b.processor ≡ p → ⊥) → bound_to p (b ∷ bs) ≡ bound_to p bs
unfolding bound_to
bound_other {p} b bs n = cond_false (b.load ∷ bound_to p bs) (bound_to p bs) (ne_eqb b.processor p n)

-- one more of theirs stands behind them
pub bound_snoc_own : {p : ℕ} (bs : List Bound) (b : Bound) → b.processor ≡ p → bound_to p (bs ++ (b ∷ [])) ≡ bound_to p bs ++ (b.load ∷ [])
unfolding bound_to
bound_snoc_own {p} [] b e = bound_own b [] e
bound_snoc_own {p} (c ∷ bs) b e =
    ⊎_elim
    (λ (own : c.processor ≡ p). rw (bound_own c (bs ++ (b ∷ [])) own, bound_own c bs own, bound_snoc_own bs b e))
    (λ (n : c.processor ≡ p → ⊥). rw (bound_other c (bs ++ (b ∷ [])) n, bound_other c bs n, bound_snoc_own bs b e))
    (eq_or_ne c.processor p)

-- and one of another changes nothing
pub bound_snoc_other : {p : ℕ} (bs : List Bound) (b : Bound) → (b.processor ≡ p → ⊥) → bound_to p (bs ++ (b ∷ [])) ≡ bound_to p bs
unfolding bound_to
bound_snoc_other {p} [] b n = bound_other b [] n
bound_snoc_other {p} (c ∷ bs) b n =
    ⊎_elim
    (λ (own : c.processor ≡ p). rw (bound_own c (bs ++ (b ∷ [])) own, bound_own c bs own, bound_snoc_other bs b n))
    (λ (m : c.processor ≡ p → ⊥). rw (bound_other c (bs ++ (b ∷ [])) m, bound_other c bs m, bound_snoc_other bs b n))
    (eq_or_ne c.processor p)

-- a processor above the highest has none
pub bound_none : (p : ℕ) (bs : List Bound) → highest bs < p → bound_to p bs ≡ []
unfolding bound_to highest
bound_none p [] h = refl
bound_none p (b ∷ bs) h =
    bound_other b bs (λ (e : b.processor ≡ p). omega arith) ∙ bound_none p bs (omega arith)

-- what holds of each load holds of theirs, and what holds of some of theirs holds of some
pub every_bound : (P : Load → Type 0) (p : ℕ) (bs : List Bound) → EveryBound (λ (b : Bound). P b.load) bs → Every P (bound_to p bs)
unfolding bound_to
every_bound P p [] e = tt
every_bound P p (b ∷ bs) e =
    ⊎_elim
    (λ (own : b.processor ≡ p). subst (Every P) (sym (bound_own b bs own)) (e.0, every_bound P p bs e.1))
    (λ (n : b.processor ≡ p → ⊥). subst (Every P) (sym (bound_other b bs n)) (every_bound P p bs e.1))
    (eq_or_ne b.processor p)

pub some_bound : (P : Load → Type 0) (p : ℕ) (bs : List Bound) → Some P (bound_to p bs) → Some P (map (λ (b : Bound). b.load) bs)
unfolding bound_to
some_bound P p [] s = s
some_bound P p (b ∷ bs) s =
    ⊎_elim
    (λ (own : b.processor ≡ p).
    ⊎_elim
    (λ (a : P b.load). inl a)
    (λ (r : Some P (bound_to p bs)). inr (some_bound P p bs r))
    (subst (Some P) (bound_own b bs own) s))
    (λ (n : b.processor ≡ p → ⊥). inr (some_bound P p bs (subst (Some P) (bound_other b bs n) s)))
    (eq_or_ne b.processor p)

pub length_bound : (p : ℕ) (bs : List Bound) → length (bound_to p bs) ≤ length bs
unfolding bound_to
length_bound p [] = le_refl 0
length_bound p (b ∷ bs) =
    ⊎_elim
    (λ (own : b.processor ≡ p). omega (arith, ap length (bound_own b bs own), length_bound p bs))
    (λ (n : b.processor ≡ p → ⊥). omega (arith, ap length (bound_other b bs n), length_bound p bs))
    (eq_or_ne b.processor p)
