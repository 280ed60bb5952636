-- Laws of the smallest number with the smallest value, over any property and any value: what is found, and that nothing else fits.
-- Assumes nothing.
use Prim.Native.Nat.{ℕ, zero, suc, ◌≤◌, ◌<◌}
use native.Mathlib.Omega.{arith}
use native.Mathlib.Nat.{le-suc_iff}
use mathlib.Core.Path.{◌≡◌, refl, sym, ap, subst, ◌∙◌}
use mathlib.Core.Logic.{◌⊎◌, inl, inr, ⊎_elim}
use mathlib.Core.Bool.{Bool, true, false, cond, ◌&&◌}
use lib.Dec.{leb, ltb}
use borrow.Author.Tests.{le-leb, leb-true, ltb-true, ltb-false}
use Rattle.laws.proofs.Tests.{and_parts, and_both, true_false}
use Rattle.laws.proofs.Orders.{eq_by_cases}
use Rattle.search.specs.Search.{NoneIn}
use Rattle.search.proofs.Bounded.{none_more, none_has}
use Rattle.slack.specs.Least.{lesser, least_up_to, least_from, Least}

module _ {p : ℕ → Bool} {v : ℕ → ℕ} {n : ℕ} where
  -- the first number that has p is the least so far
  least_begins : NoneIn p 0 n → p (suc n) ≡ true → Least p v (suc n) (suc n)
  least_begins none has =
      record {
        there = omega arith;
        within = omega arith;
        has = has;
        least = λ x a b e. ⊎_elim (λ h. none_has none a h e) (λ (q : x ≡ suc n). subst (λ (y : ℕ). v (suc n) ≤ v y) (sym q) (omega arith)) (le-suc_iff.0 b);
        first = λ x a b e. none_has none a (omega arith) e;
      }

  -- a number with a smaller value takes the place of the least
  least_moves : {t : ℕ} → Least p v n t → p (suc n) ≡ true → v (suc n) < v t → Least p v (suc n) (suc n)
  least_moves {t} l has h =
      record {
        there = omega arith;
        within = omega arith;
        has = has;
        least = λ x a b e. ⊎_elim (λ k. omega (arith, l.least x a k e)) (λ (q : x ≡ suc n). subst (λ (y : ℕ). v (suc n) ≤ v y) (sym q) (omega arith)) (le-suc_iff.0 b);
        first = λ x a b e. omega (arith, l.least x a (omega arith) e);
      }

  -- and any other leaves it
  least_stays : {t : ℕ} → Least p v n t → (p (suc n) ≡ true → v t ≤ v (suc n)) → Least p v (suc n) t
  least_stays {t} l no_less =
      record {
        there = l.there;
        within = omega (arith, l.within);
        has = l.has;
        least = λ x a b e.
            ⊎_elim (λ k. l.least x a k e) (λ (q : x ≡ suc n). subst (λ (y : ℕ). v t ≤ v y) (sym q) (no_less (sym (ap p q) ∙ e))) (le-suc_iff.0 b);
        first = l.first;
      }

-- 0 where nothing has p, and else the least
pub least_view : (p : ℕ → Bool) (v : ℕ → ℕ) (n : ℕ) → ((least_up_to p v n ≡ 0) × NoneIn p 0 n) ⊎ Least p v n (least_up_to p v n)
unfolding least_up_to lesser
least_view p v zero = inl (refl, λ x a b. absurd (omega arith))
least_view p v (suc n) = next (least_up_to p v n) (least_view p v n)
  where
    begun : (b : Bool) → p (suc n) ≡ b → NoneIn p 0 n → ((cond b (suc n) 0 ≡ 0) × NoneIn p 0 (suc n)) ⊎ Least p v (suc n) (cond b (suc n) 0)
    begun true e none = inr (least_begins none e)
    begun false e none = inl (refl, none_more none e)

    chosen : (t : ℕ) (b c : Bool) → p (suc n) ≡ b → ltb (v (suc n)) (v t) ≡ c → Least p v n t → Least p v (suc n) (cond (b && c) (suc n) t)
    chosen t true true e d l = least_moves l e (ltb-true (v (suc n)) (v t) d)
    chosen t true false e d l = least_stays l (λ q. ltb-false (v (suc n)) (v t) d)
    chosen t false c e d l = least_stays l (λ q. true_false (sym q ∙ e))

    next : (t : ℕ) → ((t ≡ 0) × NoneIn p 0 n) ⊎ Least p v n t
        → ((lesser p v t (suc n) ≡ 0) × NoneIn p 0 (suc n)) ⊎ Least p v (suc n) (lesser p v t (suc n))
    next zero (inl w) = begun (p (suc n)) refl w.1
    next zero (inr l) = let h : 1 ≤ 0 = l.there in absurd (omega arith)
    next (suc t) (inl w) = let h : suc t ≡ 0 = w.0 in absurd (omega arith)
    next (suc t) (inr l) = inr (chosen (suc t) (p (suc n)) (ltb (v (suc n)) (v (suc t))) refl refl l)

pub least_none : (p : ℕ → Bool) (v : ℕ → ℕ) (n : ℕ) → NoneIn p 0 n → least_up_to p v n ≡ 0
least_none p v n none =
    ⊎_elim (λ w. w.0) (λ l. none_has none l.there l.within l.has) (least_view p v n)

pub least_zero : (p : ℕ → Bool) (v : ℕ → ℕ) (n : ℕ) → least_up_to p v n ≡ 0 → NoneIn p 0 n
least_zero p v n e =
    ⊎_elim (λ w. w.1) (λ l. let h : 1 ≤ least_up_to p v n = l.there in absurd (omega arith)) (least_view p v n)

pub least_found : (p : ℕ → Bool) (v : ℕ → ℕ) (n t : ℕ) → least_up_to p v n ≡ t → 1 ≤ t → Least p v n t
least_found p v n t e h =
    ⊎_elim (λ w. let z : least_up_to p v n ≡ 0 = w.0 in absurd (omega arith)) (λ l. rw e at l) (least_view p v n)

-- two leasts are one
least_same : {p : ℕ → Bool} {v : ℕ → ℕ} {n t u : ℕ} → Least p v n t → Least p v n u → t ≡ u
least_same {p} {v} {n} {t} {u} l k =
    eq_by_cases t u
    (λ (h : t < u). omega (arith, k.first t l.there h l.has, l.least u k.there k.within k.has))
    (λ (h : u < t). omega (arith, l.first u k.there h k.has, k.least t l.there l.within l.has))

pub least_is : (p : ℕ → Bool) (v : ℕ → ℕ) (n t : ℕ) → Least p v n t → least_up_to p v n ≡ t
least_is p v n t l =
    ⊎_elim (λ w. none_has w.1 l.there l.within l.has) (λ k. least_same k l) (least_view p v n)

-- what is found lies within the bound
pub least_within : (p : ℕ → Bool) (v : ℕ → ℕ) (n : ℕ) → least_up_to p v n ≤ n
least_within p v n =
    ⊎_elim (λ w. let z : least_up_to p v n ≡ 0 = w.0 in omega arith) (λ l. l.within) (least_view p v n)

-- ---- from a lower end on

-- t is in from..n and has p; no number there that has p has a smaller value, and none before t has the same
pub record LeastFrom (p : ℕ → Bool) (v : ℕ → ℕ) (from n t : ℕ) : Type 0 where
  pub begins : from ≤ t
  pub within : t ≤ n
  pub has : p t ≡ true
  pub least : (x : ℕ) → from ≤ x → x ≤ n → p x ≡ true → v t ≤ v x
  pub first : (x : ℕ) → from ≤ x → x < t → p x ≡ true → v t < v x

module _ (p : ℕ → Bool) (v : ℕ → ℕ) (from n : ℕ) (some : 1 ≤ from) where
  parts : (x : ℕ) → (leb from x && p x) ≡ true → (from ≤ x) × (p x ≡ true)
  parts x e = let both = and_parts (leb from x) (p x) e in (leb-true from x both.0, both.1)

  pub from_is : (t : ℕ) → LeastFrom p v from n t → least_from p v from n ≡ t
  unfolding least_from
  from_is t l =
      least_is (λ (t : ℕ). leb from t && p t) v n t
      (record {
        there = omega (arith, l.begins);
        within = l.within;
        has = and_both (le-leb from t l.begins) l.has;
        least = λ x a b e. l.least x (parts x e).0 b (parts x e).1;
        first = λ x a b e. l.first x (parts x e).0 b (parts x e).1;
      })

  -- where some number there has p, it is found
  pub from_found : (u : ℕ) → from ≤ u → u ≤ n → p u ≡ true → LeastFrom p v from n (least_from p v from n)
  unfolding least_from
  from_found u begins within has =
      ⊎_elim
      (λ w. none_has w.1 (omega arith) within (and_both (le-leb from u begins) has))
      (λ l.
      record {
        begins = (parts _ l.has).0;
        within = l.within;
        has = (parts _ l.has).1;
        least = λ x a b e. l.least x (omega arith) b (and_both (le-leb from x a) e);
        first = λ x a b e. l.first x (omega arith) b (and_both (le-leb from x a) e);
      })
      (least_view (λ (t : ℕ). leb from t && p t) v n)
