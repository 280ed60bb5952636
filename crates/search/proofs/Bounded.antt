-- Laws of the bounded searches, over any property of lengths: what each finds, and that nothing else fits.
use Prim.Native.Nat.{ℕ, zero, suc, ◌≤◌, ◌<◌}
use native.Mathlib.Omega.{arith}
use mathlib.Core.Path.{◌≡◌, refl, sym, ap, ◌∙◌}
use mathlib.Core.Logic.{◌⊎◌, inl, inr, ⊎_elim}
use mathlib.Core.Bool.{Bool, true, false, false≢true, cond, ◌&&◌}
use native.Mathlib.Nat.{le-suc_iff}
use native.Mathlib.Decide.{dec_lt}
use lib.Dec.{ltb}
use borrow.Author.Tests.{lt-ltb, le-ltb, ltb-true}
use Rattle.laws.proofs.Tests.{and_parts, and_both}
use Rattle.laws.proofs.Orders.{le_or_lt}
use Rattle.search.specs.Search.{last_up_to, first_up_to, first_after, or_else, NoneIn, Last, First, Next}

-- a stretch without p, grown by one number without p at its top
pub none_more : {p : ℕ → Bool} {a n : ℕ} → NoneIn p a n → p (suc n) ≡ false → NoneIn p a (suc n)
none_more {p} {a} {n} below last x a<x x≤n =
    ⊎_elim (λ h. below x a<x h) (λ (e : x ≡ suc n). ap p e ∙ last) (le-suc_iff.0 x≤n)

-- a part of a stretch without p, cut at the top
pub none_less : {p : ℕ → Bool} {a n m : ℕ} → NoneIn p a m → n ≤ m → NoneIn p a n
none_less none n≤m x a<x x≤n = none x a<x (omega arith)

-- two stretches without p that meet
pub none_join : {p : ℕ → Bool} {a b n : ℕ} → NoneIn p a b → NoneIn p b n → NoneIn p a n
none_join {p} {a} {b} {n} low high x a<x x≤n = by (dec_lt b x)
  where
    by : Dec (b < x) → p x ≡ false
    by (yes h) = high x h x≤n
    by (no h) = low x a<x (omega arith)

-- one number cannot both have p and lie in a stretch without p
pub none_has : {p : ℕ → Bool} {a n x : ℕ} {A : Type 0} → NoneIn p a n → a < x → x ≤ n → p x ≡ true → A
none_has {x = x} none a<x x≤n has = absurd (false≢true (sym (none x a<x x≤n) ∙ has))

-- the last search answers 0 where nothing has p, and else the last
pub last_view : (p : ℕ → Bool) (n : ℕ) → ((last_up_to p n ≡ 0) × NoneIn p 0 n) ⊎ Last p n (last_up_to p n)
unfolding last_up_to
last_view p zero = inl (refl, λ x a b. absurd (omega arith))
last_view p (suc n) = by (p (suc n)) refl (last_view p n)
  where
    by : (b : Bool) → p (suc n) ≡ b → ((last_up_to p n ≡ 0) × NoneIn p 0 n) ⊎ Last p n (last_up_to p n)
        → ((cond b (suc n) (last_up_to p n) ≡ 0) × NoneIn p 0 (suc n)) ⊎ Last p (suc n) (cond b (suc n) (last_up_to p n))
    by true e v = inr (record { there = omega arith; within = omega arith; has = e; after = λ x a b. absurd (omega arith) })
    by false e (inl v) = inl (v.0, none_more v.1 e)
    by false e (inr v) = inr (record { there = v.there; within = omega arith; has = v.has; after = none_more v.after e })

pub last_none : (p : ℕ → Bool) (n : ℕ) → NoneIn p 0 n → last_up_to p n ≡ 0
last_none p n none =
    ⊎_elim (λ v. v.0) (λ v. none_has none v.there v.within v.has) (last_view p n)

pub last_zero : (p : ℕ → Bool) (n : ℕ) → last_up_to p n ≡ 0 → NoneIn p 0 n
last_zero p n e =
    ⊎_elim (λ v. v.1) (λ v. let h : 1 ≤ last_up_to p n = v.there in absurd (omega arith)) (last_view p n)

pub last_found : (p : ℕ → Bool) (n t : ℕ) → last_up_to p n ≡ t → 1 ≤ t → Last p n t
last_found p n t e h =
    ⊎_elim (λ v. let z : last_up_to p n ≡ 0 = v.0 in absurd (omega arith)) (λ v. rw e at v) (last_view p n)

-- past the last, nothing has p
pub last_past : (p : ℕ → Bool) (n lo : ℕ) → last_up_to p n ≤ lo → NoneIn p lo n
last_past p n lo h x a b =
    ⊎_elim (λ v. v.1 x (omega arith) b) (λ v. v.after x (omega arith) b) (last_view p n)

-- two lasts are one
last_same : {p : ℕ → Bool} {n t u : ℕ} → Last p n t → Last p n u → t ≡ u
last_same {p} {n} {t} {u} l k = by (dec_lt t u) (dec_lt u t)
  where
    by : Dec (t < u) → Dec (u < t) → t ≡ u
    by (yes h) d = none_has l.after h k.within k.has
    by (no h) (yes g) = none_has k.after g l.within l.has
    by (no h) (no g) = omega arith

pub last_is : (p : ℕ → Bool) (n t : ℕ) → Last p n t → last_up_to p n ≡ t
last_is p n t l =
    ⊎_elim (λ v. none_has v.1 l.there l.within l.has) (λ v. last_same v l) (last_view p n)

-- the first search answers 0 where nothing has p, and else the first
pub first_view : (p : ℕ → Bool) (n : ℕ) → ((first_up_to p n ≡ 0) × NoneIn p 0 n) ⊎ ((first_up_to p n ≤ n) × First p (first_up_to p n))
unfolding first_up_to
first_view p zero = inl (refl, λ x a b. absurd (omega arith))
first_view p (suc n) = by (first_up_to p n) (p (suc n)) refl (first_view p n)
  where
    by : (t : ℕ) (b : Bool) → p (suc n) ≡ b → ((t ≡ 0) × NoneIn p 0 n) ⊎ ((t ≤ n) × First p t)
        → ((or_else t (cond b (suc n) 0) ≡ 0) × NoneIn p 0 (suc n)) ⊎ ((or_else t (cond b (suc n) 0) ≤ suc n) × First p (or_else t (cond b (suc n) 0)))
    by zero true e (inl v) = inr (omega arith, record { there = omega arith; has = e; before = λ x a b. v.1 x a (omega arith) })
    by zero false e (inl v) = inl (refl, none_more v.1 e)
    by zero b e (inr v) = let h : 1 ≤ 0 = v.1.there in absurd (omega arith)
    by (suc t) b e (inl v) = let h : suc t ≡ 0 = v.0 in absurd (omega arith)
    by (suc t) b e (inr v) = inr (omega arith, v.1)

pub first_none : (p : ℕ → Bool) (n : ℕ) → NoneIn p 0 n → first_up_to p n ≡ 0
first_none p n none =
    ⊎_elim (λ v. v.0) (λ v. none_has none v.1.there v.0 v.1.has) (first_view p n)

pub first_zero : (p : ℕ → Bool) (n : ℕ) → first_up_to p n ≡ 0 → NoneIn p 0 n
first_zero p n e =
    ⊎_elim (λ v. v.1) (λ v. let h : 1 ≤ first_up_to p n = v.1.there in absurd (omega arith)) (first_view p n)

pub first_found : (p : ℕ → Bool) (n t : ℕ) → first_up_to p n ≡ t → 1 ≤ t → (t ≤ n) × First p t
first_found p n t e h =
    ⊎_elim (λ v. let z : first_up_to p n ≡ 0 = v.0 in absurd (omega arith)) (λ v. rw e at v) (first_view p n)

-- what the search finds lies within its bound
pub first_within : (p : ℕ → Bool) (n : ℕ) → first_up_to p n ≤ n
first_within p n = ⊎_elim (λ v. let z : first_up_to p n ≡ 0 = v.0 in omega arith) (λ v. v.0) (first_view p n)

-- two firsts are one
pub first_same : {p : ℕ → Bool} {t u : ℕ} → First p t → First p u → t ≡ u
first_same {p} {t} {u} l k = by (dec_lt t u) (dec_lt u t)
  where
    by : Dec (t < u) → Dec (u < t) → t ≡ u
    by (yes h) d = absurd (false≢true (sym (k.before t l.there h) ∙ l.has))
    by (no h) (yes g) = absurd (false≢true (sym (l.before u k.there g) ∙ k.has))
    by (no h) (no g) = omega arith

pub first_is : (p : ℕ → Bool) (n t : ℕ) → t ≤ n → First p t → first_up_to p n ≡ t
first_is p n t t≤n l =
    ⊎_elim (λ v. none_has v.1 l.there t≤n l.has) (λ v. first_same v.1 l) (first_view p n)

-- ---- above a lower end

-- the property that the search above lo looks for
abbrev past : (ℕ → Bool) → ℕ → ℕ → Bool
past p lo = λ (t : ℕ). ltb lo t && p t

module _ (p : ℕ → Bool) (lo : ℕ) where
  past_has : {t : ℕ} → lo < t → p t ≡ true → past p lo t ≡ true
  past_has {t} h e = and_both (lt-ltb lo t h) e

  past_parts : {t : ℕ} → past p lo t ≡ true → (lo < t) × (p t ≡ true)
  past_parts {t} e = let parts = and_parts (ltb lo t) (p t) e in (ltb-true lo t parts.0, parts.1)

  -- above lo the two agree
  past_same : {t : ℕ} → lo < t → past p lo t ≡ p t
  past_same {t} h = ap (λ (b : Bool). b && p t) (lt-ltb lo t h)

  past_not : {t : ℕ} → t ≤ lo → past p lo t ≡ false
  past_not {t} h = ap (λ (b : Bool). b && p t) (le-ltb lo t h)

  none_past : {n : ℕ} → NoneIn p lo n → NoneIn (past p lo) 0 n
  none_past none x a b = ⊎_elim past_not (λ h. past_same h ∙ none x h b) (le_or_lt x lo)

  past_none : {n : ℕ} → NoneIn (past p lo) 0 n → NoneIn p lo n
  past_none none x a b = sym (past_same a) ∙ none x (omega arith) b

  next_first : {t : ℕ} → Next p lo t → First (past p lo) t
  next_first {t} f =
      record {
        there = omega (arith, f.above);
        has = past_has f.above f.has;
        before = λ x a b. ⊎_elim past_not (λ h. past_same h ∙ f.before x h b) (le_or_lt x lo);
      }

  first_next : {t : ℕ} → First (past p lo) t → Next p lo t
  first_next {t} f =
      let parts = past_parts f.has in
      record { above = parts.0; has = parts.1; before = λ x a b. sym (past_same a) ∙ f.before x (omega arith) b }

pub after_none : (p : ℕ → Bool) (lo n : ℕ) → NoneIn p lo n → first_after p lo n ≡ 0
unfolding first_after
after_none p lo n none = first_none (past p lo) n (none_past p lo none)

pub after_zero : (p : ℕ → Bool) (lo n : ℕ) → first_after p lo n ≡ 0 → NoneIn p lo n
unfolding first_after
after_zero p lo n e = past_none p lo (first_zero (past p lo) n e)

pub after_found : (p : ℕ → Bool) (lo n t : ℕ) → first_after p lo n ≡ t → 1 ≤ t → (t ≤ n) × Next p lo t
unfolding first_after
after_found p lo n t e h = let f = first_found (past p lo) n t e h in (f.0, first_next p lo f.1)

pub after_is : (p : ℕ → Bool) (lo n t : ℕ) → t ≤ n → Next p lo t → first_after p lo n ≡ t
unfolding first_after
after_is p lo n t h f = first_is (past p lo) n t h (next_first p lo f)

-- above 0 lie all
pub after_all : (p : ℕ → Bool) (n : ℕ) → first_after p 0 n ≡ first_up_to p n
after_all p n =
    ⊎_elim
    (λ v. after_none p 0 n v.1 ∙ sym v.0)
    (λ v. after_is p 0 n (first_up_to p n) v.0 (record { above = v.1.there; has = v.1.has; before = v.1.before }))
    (first_view p n)

pub after_within : (p : ℕ → Bool) (lo n : ℕ) → first_after p lo n ≤ n
unfolding first_after
after_within p lo n = first_within (past p lo) n
