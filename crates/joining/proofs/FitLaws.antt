-- The fits: what each names, that nothing else is named, that first fit takes the lowest number, and that rooms in any multiple of the
-- periods name the same.
-- Assumes nothing.
use Prim.Native.Nat.{ℕ, zero, suc, ◌-◌, ◌*◌, ◌≤◌, ◌<◌}
use native.Mathlib.Omega.{arith}
use native.Mathlib.Nat.{le-suc_iff, mul-lt-mul_of_pos_left, lt_of_mul-lt-mul_left}
use mathlib.Core.Path.{◌≡◌, refl, sym, ap, subst, ◌∙◌}
use mathlib.Core.Logic.{◌⊎◌, inl, inr, ⊎_elim}
use mathlib.Core.Bool.{Bool, true, false, cond, ◌&&◌}
use mathlib.Core.List.{List}
use lib.Dec.{ltb}
use borrow.Author.Tests.{lt-ltb, ltb-true, ltb-false}
use Rattle.laws.proofs.Tests.{and_parts, and_both, true_false, never_true, same_test}
use Rattle.laws.proofs.Orders.{le_or_lt}
use Rattle.search.specs.Search.{NoneIn, or_else}
use Rattle.search.proofs.Bounded.{none_more, none_has, after_none, after_is}
use Rattle.packing.specs.declared.Fit.{Fit}
use Rattle.packing.specs.declared.Fit.TheVariants.{First, Best, Worst}
use Rattle.tasks.specs.declared.set.Header.{Header}
use Rattle.loads.specs.Figures.{Figures}
use Rattle.shares.specs.Totals.{total_in}
use Rattle.shares.proofs.ScaledLaws.{PeriodsDivide, left_scaled}
use Rattle.joining.specs.Join.{first_fit, join, Picks}
use Rattle.joining.specs.Fits.{better, preferred, best_up_to, fit_by, Rather}
use Rattle.joining.proofs.JoinLaws.{join_picked, join_nothing}

-- ---- one number rather than another

-- each rather than itself
rather_own : (fit : Fit) (room : ℕ → ℕ) (q : ℕ) → Rather fit room q q
rather_own First room q = omega arith
rather_own Best room q = inr (refl, omega arith)
rather_own Worst room q = inr (refl, omega arith)

-- two that are each named rather than the other are one
rather_same : (fit : Fit) (room : ℕ → ℕ) (q x : ℕ) → Rather fit room q x → Rather fit room x q → q ≡ x
rather_same First room q x h g = omega arith
rather_same Best room q x (inl h) (inl g) = absurd (omega arith)
rather_same Best room q x (inl h) (inr g) = absurd (omega (arith, g.0))
rather_same Best room q x (inr h) (inl g) = absurd (omega (arith, h.0))
rather_same Best room q x (inr h) (inr g) = omega (arith, h.1, g.1)
rather_same Worst room q x (inl h) (inl g) = absurd (omega arith)
rather_same Worst room q x (inl h) (inr g) = absurd (omega (arith, g.0))
rather_same Worst room q x (inr h) (inl g) = absurd (omega (arith, h.0))
rather_same Worst room q x (inr h) (inr g) = omega (arith, h.1, g.1)

-- what is better than q is named rather than all that q is
rather_better : (fit : Fit) (room : ℕ → ℕ) (t q x : ℕ) → better fit room t q ≡ true → Rather fit room q x → Rather fit room t x
rather_better First room t q x e h = true_false (sym e)
rather_better Best room t q x e (inl h) = inl (omega (arith, ltb-true (room t) (room q) e))
rather_better Best room t q x e (inr h) = inl (omega (arith, ltb-true (room t) (room q) e, h.0))
rather_better Worst room t q x e (inl h) = inl (omega (arith, ltb-true (room q) (room t) e))
rather_better Worst room t q x e (inr h) = inl (omega (arith, ltb-true (room q) (room t) e, h.0))

-- with as much room or less, and with as much or more
less_room : (room : ℕ → ℕ) (q t : ℕ) → q < t → room q ≤ room t → Rather Best room q t
less_room room q t h g = ⊎_elim (λ (k : room t ≤ room q). inr (omega arith, omega arith)) (λ k. inl k) (le_or_lt (room t) (room q))

more_room : (room : ℕ → ℕ) (q t : ℕ) → q < t → room t ≤ room q → Rather Worst room q t
more_room room q t h g = ⊎_elim (λ (k : room q ≤ room t). inr (omega arith, omega arith)) (λ k. inl k) (le_or_lt (room q) (room t))

-- q is named rather than a higher number that is not better
rather_lower : (fit : Fit) (room : ℕ → ℕ) (t q : ℕ) → q < t → better fit room t q ≡ false → Rather fit room q t
rather_lower First room t q h e = omega arith
rather_lower Best room t q h e = less_room room q t h (ltb-false (room t) (room q) e)
rather_lower Worst room t q h e = more_room room q t h (ltb-false (room q) (room t) e)

-- ---- the search

-- t is in 1..n and has p, and the fit names it rather than any other that does
record Top (fit : Fit) (room : ℕ → ℕ) (p : ℕ → Bool) (n t : ℕ) : Type 0 where
  there : 1 ≤ t
  within : t ≤ n
  has : p t ≡ true
  rather : (x : ℕ) → 1 ≤ x → x ≤ n → p x ≡ true → Rather fit room t x

module _ (fit : Fit) (room : ℕ → ℕ) (p : ℕ → Bool) where
  module _ {n : ℕ} where
    -- the first number that has p
    top_begins : NoneIn p 0 n → p (suc n) ≡ true → Top fit room p (suc n) (suc n)
    top_begins none has =
        record {
          there = omega arith;
          within = omega arith;
          has = has;
          rather = λ x a b e. ⊎_elim (λ h. none_has none a h e) (λ (q : x ≡ suc n). subst (λ (y : ℕ). Rather fit room (suc n) y) (sym q) (rather_own fit room (suc n))) (le-suc_iff.0 b);
        }

    -- a better one takes its place
    top_moves : {t : ℕ} → Top fit room p n t → p (suc n) ≡ true → better fit room (suc n) t ≡ true → Top fit room p (suc n) (suc n)
    top_moves {t} l has h =
        record {
          there = omega arith;
          within = omega arith;
          has = has;
          rather = λ x a b e.
              ⊎_elim (λ k. rather_better fit room (suc n) t x h (l.rather x a k e)) (λ (q : x ≡ suc n). subst (λ (y : ℕ). Rather fit room (suc n) y) (sym q) (rather_own fit room (suc n)))
              (le-suc_iff.0 b);
        }

    -- and any other leaves it
    top_stays : {t : ℕ} → Top fit room p n t → (p (suc n) ≡ true → better fit room (suc n) t ≡ false) → Top fit room p (suc n) t
    top_stays {t} l not_better =
        record {
          there = l.there;
          within = omega (arith, l.within);
          has = l.has;
          rather = λ x a b e.
              ⊎_elim (λ k. l.rather x a k e)
              (λ (q : x ≡ suc n).
              subst (λ (y : ℕ). Rather fit room t y) (sym q) (rather_lower fit room (suc n) t (omega (arith, l.within)) (not_better (sym (ap p q) ∙ e))))
              (le-suc_iff.0 b);
        }

  -- 0 where nothing has p, and else the one that is named
  top_view : (n : ℕ) → ((best_up_to (better fit room) p n ≡ 0) × NoneIn p 0 n) ⊎ Top fit room p n (best_up_to (better fit room) p n)
  unfolding best_up_to preferred
  top_view zero = inl (refl, λ x a b. absurd (omega arith))
  top_view (suc n) = next (best_up_to (better fit room) p n) (top_view n)
    where
      begun : (b : Bool) → p (suc n) ≡ b → NoneIn p 0 n → ((cond b (suc n) 0 ≡ 0) × NoneIn p 0 (suc n)) ⊎ Top fit room p (suc n) (cond b (suc n) 0)
      begun true e none = inr (top_begins none e)
      begun false e none = inl (refl, none_more none e)

      chosen : (t : ℕ) (b c : Bool) → p (suc n) ≡ b → better fit room (suc n) t ≡ c → Top fit room p n t → Top fit room p (suc n) (cond (b && c) (suc n) t)
      chosen t true true e d l = top_moves l e d
      chosen t true false e d l = top_stays l (λ q. d)
      chosen t false c e d l = top_stays l (λ q. true_false (sym q ∙ e))

      next : (t : ℕ) → ((t ≡ 0) × NoneIn p 0 n) ⊎ Top fit room p n t
          → ((preferred (better fit room) p t (suc n) ≡ 0) × NoneIn p 0 (suc n)) ⊎ Top fit room p (suc n) (preferred (better fit room) p t (suc n))
      next zero (inl w) = begun (p (suc n)) refl w.1
      next zero (inr l) = let h : 1 ≤ 0 = l.there in absurd (omega arith)
      next (suc t) (inl w) = let h : suc t ≡ 0 = w.0 in absurd (omega arith)
      next (suc t) (inr l) = inr (chosen (suc t) (p (suc n)) (better fit room (suc n) (suc t)) refl refl l)

-- ---- the rule of a fit

-- q is a candidate above lo, up to hi, that the fit names rather than any other there
pub record Fitted (fit : Fit) (room : ℕ → ℕ) (candidate : ℕ → Bool) (lo hi q : ℕ) : Type 0 where
  pub above : lo < q
  pub within : q ≤ hi
  pub has : candidate q ≡ true
  pub rather : (x : ℕ) → lo < x → x ≤ hi → candidate x ≡ true → Rather fit room q x

module _ (fit : Fit) (room : ℕ → ℕ) (candidate : ℕ → Bool) (lo hi : ℕ) where
  -- the candidates above lo
  abbrev past : ℕ → Bool
  past t = ltb lo t && candidate t

  -- 0 and no candidate, or the one that is named
  pub fit_view : ((fit_by fit room candidate lo hi ≡ 0) × NoneIn candidate lo hi) ⊎ Fitted fit room candidate lo hi (fit_by fit room candidate lo hi)
  unfolding fit_by
  fit_view = ⊎_elim (λ w. inl (w.0, none w.1)) (λ l. inr (found l)) (top_view fit room past hi)
    where
      none : NoneIn past 0 hi → NoneIn candidate lo hi
      none n x a b = sym (ap (λ (t : Bool). t && candidate x) (lt-ltb lo x a)) ∙ n x (omega arith) b

      found : Top fit room past hi (best_up_to (better fit room) past hi) → Fitted fit room candidate lo hi (best_up_to (better fit room) past hi)
      found l =
          let parts = and_parts (ltb lo (best_up_to (better fit room) past hi)) (candidate (best_up_to (better fit room) past hi)) l.has in
          record {
            above = ltb-true lo _ parts.0;
            within = l.within;
            has = parts.1;
            rather = λ x a b e. l.rather x (omega arith) b (and_both (lt-ltb lo x a) e);
          }

  -- there is none
  pub fit_none : NoneIn candidate lo hi → fit_by fit room candidate lo hi ≡ 0
  fit_none none = ⊎_elim (λ w. w.0) (λ l. none_has none l.above l.within l.has) fit_view

  -- nothing is named where there is none
  pub fit_zero : fit_by fit room candidate lo hi ≡ 0 → NoneIn candidate lo hi
  fit_zero e = ⊎_elim (λ w. w.1) (λ l. absurd (omega (arith, l.above))) fit_view

  -- no other is named
  pub fit_is : (q : ℕ) → Fitted fit room candidate lo hi q → fit_by fit room candidate lo hi ≡ q
  fit_is q f =
      ⊎_elim
      (λ w. none_has w.1 f.above f.within f.has)
      (λ l. rather_same fit room _ q (l.rather q f.above f.within f.has) (f.rather _ l.above l.within l.has))
      fit_view

  -- a new server where there is none, or the one that is named
  pub join_fit_view : ((join (fit_by fit room) candidate lo hi ≡ suc hi) × NoneIn candidate lo hi)
      ⊎ Fitted fit room candidate lo hi (join (fit_by fit room) candidate lo hi)
  join_fit_view =
      ⊎_elim
      (λ w. inl (join_nothing (fit_by fit room) candidate lo hi w.0, w.1))
      (λ l. inr (subst (Fitted fit room candidate lo hi) (sym (join_picked (fit_by fit room) candidate lo hi refl (omega (arith, l.above)))) l))
      fit_view

  pub join_fit_is : (q : ℕ) → Fitted fit room candidate lo hi q → join (fit_by fit room) candidate lo hi ≡ q
  join_fit_is q f = join_picked (fit_by fit room) candidate lo hi (fit_is q f) (omega (arith, f.above))

  pub join_fit_none : NoneIn candidate lo hi → join (fit_by fit room) candidate lo hi ≡ suc hi
  join_fit_none none = join_nothing (fit_by fit room) candidate lo hi (fit_none none)

-- every fit picks candidates
pub fits_pick : (fit : Fit) (room : ℕ → ℕ) → Picks (fit_by fit room)
fits_pick fit room candidate lo hi = ⊎_elim (λ w. inl w.0) (λ l. inr (l.above, l.within, l.has)) (fit_view fit room candidate lo hi)

-- by first fit the lowest-numbered, whatever the rooms
pub first_is_first : (room : ℕ → ℕ) (candidate : ℕ → Bool) (lo hi : ℕ) → fit_by First room candidate lo hi ≡ first_fit candidate lo hi
first_is_first room candidate lo hi =
    ⊎_elim
    (λ w. w.0 ∙ sym (after_none candidate lo hi w.1))
    (λ l. sym (after_is candidate lo hi _ l.within (record { above = l.above; has = l.has; before = λ x a b. never_true (candidate x) (λ e. omega (arith, l.rather x a (omega (arith, l.within)) e)) })))
    (fit_view First room candidate lo hi)

pub join_first_fit : (room : ℕ → ℕ) (candidate : ℕ → Bool) (lo hi : ℕ) → join (fit_by First room) candidate lo hi ≡ join first_fit candidate lo hi
join_first_fit room candidate lo hi = λ i. join (λ p a b. first_is_first room p a b i) candidate lo hi

-- ---- other rooms

module _ (room other : ℕ → ℕ) (same : (x y : ℕ) → ltb (room x) (room y) ≡ ltb (other x) (other y)) where
  better_same : (fit : Fit) (t q : ℕ) → better fit room t q ≡ better fit other t q
  better_same First t q = refl
  better_same Best t q = same t q
  better_same Worst t q = same q t

-- rooms that compare alike name the same
pub fit_same : (fit : Fit) (room other : ℕ → ℕ) → ((x y : ℕ) → ltb (room x) (room y) ≡ ltb (other x) (other y)) → (candidate : ℕ → Bool) (lo hi : ℕ) →
    fit_by fit room candidate lo hi ≡ fit_by fit other candidate lo hi
unfolding fit_by
fit_same fit room other same candidate lo hi = λ i. best_up_to (λ t q. better_same room other same fit t q i) (λ (q : ℕ). ltb lo q && candidate q) hi

-- numbers that are as H to K compare alike
module _ (H K : ℕ) (h : 1 ≤ H) (k : 1 ≤ K) where
  scaled_lt : {a b c d : ℕ} → K * a ≡ H * c → K * b ≡ H * d → a < b → c < d
  scaled_lt {a} {b} {c} {d} e g less =
      let more : K * a < K * b = mul-lt-mul_of_pos_left less k in
      lt_of_mul-lt-mul_left H (omega arith)

module _ (H K : ℕ) (h : 1 ≤ H) (k : 1 ≤ K) (room other : ℕ → ℕ) (scaled : (x : ℕ) → K * room x ≡ H * other x) where
  pub scaled_same : (x y : ℕ) → ltb (room x) (room y) ≡ ltb (other x) (other y)
  scaled_same x y =
      same_test (ltb (room x) (room y)) (ltb (other x) (other y))
      (λ e. lt-ltb _ _ (scaled_lt H K h k (scaled x) (scaled y) (ltb-true _ _ e)))
      (λ e. lt-ltb _ _ (scaled_lt K H k h (sym (scaled x)) (sym (scaled y)) (ltb-true _ _ e)))

-- servers of any members: rooms in any common multiple of the periods name the same
module _ (fit : Fit) (h : Header) (H K : ℕ) (of : ℕ → List Figures) (some : 1 ≤ H) (other : 1 ≤ K) (in_first : (q : ℕ) → PeriodsDivide H (of q)) (in-second : (q : ℕ) → PeriodsDivide K (of q))
    (candidate : ℕ → Bool) (lo hi : ℕ) where
  pub room_same : fit_by fit (λ (q : ℕ). H - total_in h H (of q)) candidate lo hi ≡ fit_by fit (λ (q : ℕ). K - total_in h K (of q)) candidate lo hi
  room_same =
      fit_same fit (λ (q : ℕ). H - total_in h H (of q)) (λ (q : ℕ). K - total_in h K (of q))
      (scaled_same H K some other (λ (q : ℕ). H - total_in h H (of q)) (λ (q : ℕ). K - total_in h K (of q)) (λ q. left_scaled h H K (of q) (in_first q) (in-second q)))
      candidate lo hi

  pub join_room_same : join (fit_by fit (λ (q : ℕ). H - total_in h H (of q))) candidate lo hi ≡ join (fit_by fit (λ (q : ℕ). K - total_in h K (of q))) candidate lo hi
  unfolding join
  join_room_same = ap (λ (t : ℕ). or_else t (suc hi)) room_same
