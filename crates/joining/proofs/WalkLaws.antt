-- A walk over the servers from the lower end on: what was found so far is what the fit names of those that were passed.
-- Assumes nothing.
use Prim.Native.Nat.{ℕ, zero, suc, ◌+◌, ◌≤◌, ◌<◌, max}
use native.Mathlib.Numerals.{add-one}
use native.Mathlib.Nat.{eq-zero-or-pos}
use native.Mathlib.Omega.{arith}
use mathlib.Core.Path.{◌≡◌, refl, sym, ap, ap₂, ◌∙◌}
use mathlib.Core.Logic.{⊎_elim}
use mathlib.Core.Bool.{Bool, true, false, cond, ◌&&◌, ◌||◌}
use lib.Dec.{ltb}
use borrow.Author.Tests.{lt-ltb, eq-eqb, ne_eqb}
use Rattle.laws.proofs.Tests.{true_false}
use Rattle.laws.proofs.Orders.{le_or_lt}
use Rattle.search.specs.Search.{NoneIn}
use Rattle.packing.specs.declared.Fit.{Fit}
use Rattle.packing.specs.declared.Fit.TheVariants.{First, Best, Worst}
use Rattle.joining.specs.Join.{join}
use Rattle.joining.specs.Fits.{better, preferred, best_up_to, fit_by, worth_asking}
use Rattle.joining.proofs.JoinLaws.{join_picked}
use Rattle.joining.proofs.FitLaws.{fit_none, fit_zero}

-- the rooms decide
better_rooms : (fit : Fit) (room : ℕ → ℕ) (t q : ℕ) {r h : ℕ} → r ≡ room t → h ≡ room q → better fit (λ (x : ℕ). x) r h ≡ better fit room t q
better_rooms First room t q e g = refl
better_rooms Best room t q e g = ap₂ ltb e g
better_rooms Worst room t q e g = ap₂ ltb g e

-- nothing was found
pub worth_none : (fit : Fit) (found room held : ℕ) → found ≡ 0 → worth_asking fit found room held ≡ true
unfolding worth_asking
worth_none fit found room held z = ap (λ (x : Bool). x || better fit (λ (x : ℕ). x) room held) (eq-eqb found 0 z)

-- something was, and the rooms decide
pub worth_some : (fit : Fit) (found room held : ℕ) → (found ≡ 0 → ⊥) → worth_asking fit found room held ≡ better fit (λ (x : ℕ). x) room held
unfolding worth_asking
worth_some fit found room held n = ap (λ (x : Bool). x || better fit (λ (x : ℕ). x) room held) (ne_eqb found 0 n)

-- ---- one number more

module _ (b : ℕ → ℕ → Bool) (p : ℕ → Bool) (found t : ℕ) where
  -- it does not have p
  not_preferred : p t ≡ false → preferred b p found t ≡ found
  unfolding preferred
  not_preferred e = by found
    where
      by : (f : ℕ) → preferred b p f t ≡ f
      by zero = ap (λ (x : Bool). cond x t 0) e
      by (suc f) = ap (λ (x : Bool). cond (x && b t (suc f)) t (suc f)) e

  -- it is no better than what was found
  not_better : 1 ≤ found → b t found ≡ false → preferred b p found t ≡ found
  unfolding preferred
  not_better = by found
    where
      neither : (x : Bool) (f : ℕ) → cond (x && false) t f ≡ f
      neither true f = refl
      neither false f = refl

      by : (f : ℕ) → 1 ≤ f → b t f ≡ false → preferred b p f t ≡ f
      by zero h e = absurd (omega arith)
      by (suc f) h e = ap (λ (x : Bool). cond (p t && x) t (suc f)) e ∙ neither (p t) (suc f)

  -- it has p, and nothing was found
  is_first : found ≡ 0 → p t ≡ true → preferred b p found t ≡ t
  unfolding preferred
  is_first z e = ap (λ (f : ℕ). preferred b p f t) z ∙ ap (λ (x : Bool). cond x t 0) e

  -- it has p and is better
  is_better : 1 ≤ found → p t ≡ true → b t found ≡ true → preferred b p found t ≡ t
  unfolding preferred
  is_better = by found
    where
      by : (f : ℕ) → 1 ≤ f → p t ≡ true → b t f ≡ true → preferred b p f t ≡ t
      by zero h e g = absurd (omega arith)
      by (suc f) h e g = ap₂ (λ (x y : Bool). cond (x && y) t (suc f)) e g

-- ---- the walk

-- the servers above lo, up to q, were passed: what was found, and its room
pub record Walked (fit : Fit) (room : ℕ → ℕ) (candidate : ℕ → Bool) (lo q found held : ℕ) : Type 0 where
  pub above : lo ≤ q
  pub is : found ≡ fit_by fit room candidate lo q
  pub holds : 1 ≤ found → held ≡ room found

pub walk_begins : (fit : Fit) (room : ℕ → ℕ) (candidate : ℕ → Bool) (lo held : ℕ) → Walked fit room candidate lo lo 0 held
walk_begins fit room candidate lo held =
    record { above = omega arith; is = sym (fit_none fit room candidate lo lo (λ x a b. absurd (omega arith))); holds = λ h. absurd (omega arith) }

module _ {fit : Fit} {room : ℕ → ℕ} {candidate : ℕ → Bool} {lo q found held : ℕ} (w : Walked fit room candidate lo q found held) where
  -- the candidates above lo; server q + 1 is above it
  abbrev past : ℕ → Bool
  past t = ltb lo t && candidate t

  past_next : past (suc q) ≡ candidate (q + 1)
  past_next = ap (λ (x : Bool). x && candidate (suc q)) (lt-ltb lo (suc q) (omega (arith, w.above))) ∙ ap candidate (sym (add-one q))

  step : fit_by fit room candidate lo (q + 1) ≡ preferred (better fit room) past found (suc q)
  unfolding fit_by best_up_to
  step = ap (fit_by fit room candidate lo) (add-one q) ∙ ap (λ (f : ℕ). preferred (better fit room) past f (suc q)) (sym w.is)

  -- what was found stays
  stays : preferred (better fit room) past found (suc q) ≡ found → Walked fit room candidate lo (q + 1) found held
  stays e = record { above = omega (arith, w.above); is = sym (step ∙ e); holds = w.holds }

  -- the next server is no candidate
  pub walk_refused : candidate (q + 1) ≡ false → Walked fit room candidate lo (q + 1) found held
  walk_refused e = stays (not_preferred (better fit room) past found (suc q) (past_next ∙ e))

  -- it is found: its room is held from here on
  module _ {r : ℕ} (is : r ≡ room (q + 1)) where
    room_next : r ≡ room (suc q)
    room_next = is ∙ ap room (add-one q)

    better_next : 1 ≤ found → better fit (λ (x : ℕ). x) r held ≡ better fit room (suc q) found
    better_next h = better_rooms fit room (suc q) found room_next (w.holds h)

    moved : preferred (better fit room) past found (suc q) ≡ suc q → Walked fit room candidate lo (q + 1) (q + 1) r
    moved e = record { above = omega (arith, w.above); is = add-one q ∙ sym (step ∙ e); holds = λ h. is }

    -- a candidate that is worth asking is found
    pub walk_moves : worth_asking fit found r held ≡ true → candidate (q + 1) ≡ true → Walked fit room candidate lo (q + 1) (q + 1) r
    walk_moves asked has =
        ⊎_elim
        (λ (z : found ≡ 0). moved (is_first (better fit room) past found (suc q) z (past_next ∙ has)))
        (λ (h : 1 ≤ found). moved (is_better (better fit room) past found (suc q) h (past_next ∙ has) (sym (better_next h) ∙ sym (worth_some fit found r held (λ (z : found ≡ 0). omega arith)) ∙ asked)))
        (eq-zero-or-pos found)

    -- one that is not is passed over
    pub walk_passed : worth_asking fit found r held ≡ false → Walked fit room candidate lo (q + 1) found held
    walk_passed not =
        ⊎_elim
        (λ (z : found ≡ 0). true_false (sym (worth_none fit found r held z) ∙ not))
        (λ (h : 1 ≤ found).
        stays (not_better (better fit room) past found (suc q) h (sym (better_next h) ∙ sym (worth_some fit found r held (λ (z : found ≡ 0). omega arith)) ∙ not)))
        (eq-zero-or-pos found)

  -- all servers were passed
  module _ {count : ℕ} (all : count ≤ q) (within : q ≤ max lo count) where
    ends : fit_by fit room candidate lo count ≡ found
    ends =
        ⊎_elim
        (λ (h : count ≤ lo).
        let e : q ≡ lo = omega (arith, w.above) in
        fit_none fit room candidate lo count (λ x a b. absurd (omega arith)) ∙
        sym (w.is ∙ fit_none fit room candidate lo q (λ x a b. absurd (omega arith))))
        (λ (h : lo < count). let e : count ≡ q = omega arith in ap (fit_by fit room candidate lo) e ∙ sym w.is)
        (le_or_lt count lo)

    pub walk_found : (found ≡ 0 → ⊥) → join (fit_by fit room) candidate lo count ≡ found
    walk_found some = ⊎_elim (λ z. absurd (some z)) (λ (h : 1 ≤ found). join_picked (fit_by fit room) candidate lo count ends h) (eq-zero-or-pos found)

    -- nothing was found: there is no candidate, whatever the rooms
    pub walk_none : found ≡ 0 → NoneIn candidate lo count
    walk_none z = fit_zero fit room candidate lo count (ends ∙ z)
