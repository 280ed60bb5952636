-- The verdict over a horizon, and over all lengths.
use Prim.Native.Nat.{ℕ, zero, suc, ◌≤◌, ◌<◌}
use native.Mathlib.Omega.{arith}
use native.Mathlib.Nat.{eq-zero-or-pos, le_trans}
use mathlib.Core.Path.{◌≡◌, refl, sym, ap, ◌∙◌}
use mathlib.Core.Logic.{⊎_elim}
use mathlib.Core.Bool.{true, false, false≢true}
use borrow.Author.Tests.{ltb-true, ltb-false, lt-ltb, le-ltb}
use Rattle.demand.specs.Lawful.{Lawful}
use Rattle.demand.specs.Supply.{Allowed, supply}
use Rattle.demand.specs.Passes.{Passes}
use Rattle.demand.proofs.Claims.{demand_decides}
use Rattle.demand.proofs.Reserve.{supply_rises}
use Rattle.search.specs.Search.{NoneIn, First}
use Rattle.verdict.specs.Verdict.{failing, first_failing, closest, reading_at, verdict_at, verdict_of, is_yes, passing}
use Rattle.verdict.specs.declared.answer.Verdict.TheVariants.{Yes, No}
use Rattle.search.proofs.Bounded.{first_none, first_zero, first_found, first_view, first_same}

-- a length fails, or it does not
pub fails : (g : ℕ → ℕ) (S L R t : ℕ) → supply S L R t < g t → failing g S L R t ≡ true
unfolding failing
fails g S L R t h = lt-ltb (supply S L R t) (g t) h

pub holds : (g : ℕ → ℕ) (S L R t : ℕ) → g t ≤ supply S L R t → failing g S L R t ≡ false
unfolding failing
holds g S L R t h = le-ltb (supply S L R t) (g t) h

pub has_failed : (g : ℕ → ℕ) (S L R t : ℕ) → failing g S L R t ≡ true → supply S L R t < g t
unfolding failing
has_failed g S L R t h = ltb-true (supply S L R t) (g t) h

pub has_held : (g : ℕ → ℕ) (S L R t : ℕ) → failing g S L R t ≡ false → g t ≤ supply S L R t
unfolding failing
has_held g S L R t h = ltb-false (supply S L R t) (g t) h

module _ (g : ℕ → ℕ) (S L R : ℕ) where
  passes_none : Passes g S L R → (n : ℕ) → NoneIn (failing g S L R) 0 n
  passes_none passes n x a b = holds g S L R x (passes x a)

  passes_first : {t : ℕ} {A : Type 0} → Passes g S L R → First (failing g S L R) t → A
  passes_first {t} passes f = absurd (false≢true (sym (holds g S L R t (passes t f.there)) ∙ f.has))

-- the smallest failing length is 0 exactly where nothing fails up to the horizon, and else it is the first of all
module _ (g : ℕ → ℕ) (H S L R : ℕ) where
  pub zero_none : first_failing g H S L R ≡ 0 → NoneIn (failing g S L R) 0 H
  unfolding first_failing
  zero_none e = first_zero (failing g S L R) H e

  pub none_zero : NoneIn (failing g S L R) 0 H → first_failing g H S L R ≡ 0
  unfolding first_failing
  none_zero none = first_none (failing g S L R) H none

  pub passes_zero : Passes g S L R → first_failing g H S L R ≡ 0
  passes_zero passes = none_zero (passes_none g S L R passes H)

  pub fails_first : (t : ℕ) → 1 ≤ t → first_failing g H S L R ≡ t → First (failing g S L R) t
  unfolding first_failing
  fails_first t h e = (first_found (failing g S L R) H t e h).1

-- under a lawful demand the horizon decides for all lengths
module _ (g : ℕ → ℕ) (H S L R : ℕ) (lawful : Lawful g H) (slot : 1 ≤ S) where
  none_passes : NoneIn (failing g S L R) 0 H → Passes g S L R
  none_passes none = demand_decides g S L R H slot lawful (λ t a b. has_held g S L R t (none t a b))

  pub zero_passes : first_failing g H S L R ≡ 0 → Passes g S L R
  zero_passes e = none_passes (zero_none g H S L R e)

  pub first_fails : (t : ℕ) → First (failing g S L R) t → first_failing g H S L R ≡ t
  unfolding first_failing
  first_fails t f =
      ⊎_elim (λ v. passes_first g S L R (none_passes v.1) f) (λ v. first_same v.1 f) (first_view (failing g S L R) H)

-- so two horizons give the same smallest failing length
pub same_first : (g : ℕ → ℕ) (H K S L R : ℕ) → Lawful g H → Lawful g K → 1 ≤ S → first_failing g H S L R ≡ first_failing g K S L R
same_first g H K S L R h k slot =
    ⊎_elim
    (λ z. z ∙ sym (passes_zero g K S L R (zero_passes g H S L R h slot z)))
    (λ p. sym (first_fails g K S L R k slot (first_failing g H S L R) (fails_first g H S L R (first_failing g H S L R) p refl)))
    (eq-zero-or-pos (first_failing g H S L R))

-- the verdict where no length fails
pub verdict_yes : (g : ℕ → ℕ) (H S L R : ℕ) → first_failing g H S L R ≡ 0 → verdict_of g H S L R ≡ Yes (reading_at g S L R (closest g H S L R))
unfolding verdict_of verdict_at
verdict_yes g H S L R e = rw e refl

-- the verdict where t is the smallest failing length
pub verdict_no : (g : ℕ → ℕ) (H S L R t : ℕ) → first_failing g H S L R ≡ t → 1 ≤ t → verdict_of g H S L R ≡ No (reading_at g S L R t)
unfolding verdict_of verdict_at
verdict_no g H S L R zero e h = absurd (omega arith)
verdict_no g H S L R (suc t) e h = rw e refl

pub passing_yes : (g : ℕ → ℕ) (H S L R : ℕ) → first_failing g H S L R ≡ 0 → passing g H S L R ≡ true
unfolding passing
passing_yes g H S L R e = ap is_yes (verdict_yes g H S L R e)

pub passing_no : (g : ℕ → ℕ) (H S L R : ℕ) → 1 ≤ first_failing g H S L R → passing g H S L R ≡ false
unfolding passing
passing_no g H S L R h = ap is_yes (verdict_no g H S L R (first_failing g H S L R) refl h)

-- a verdict of yes comes from no failing length
pub yes_zero : (g : ℕ → ℕ) (H S L R : ℕ) → passing g H S L R ≡ true → first_failing g H S L R ≡ 0
yes_zero g H S L R e =
    ⊎_elim (λ z. z) (λ h. absurd (false≢true (sym (passing_no g H S L R h) ∙ e))) (eq-zero-or-pos (first_failing g H S L R))

-- a lawful demand that is passing passes
pub passing_passes : (g : ℕ → ℕ) (H S L R : ℕ) → Lawful g H → 1 ≤ S → passing g H S L R ≡ true → Passes g S L R
passing_passes g H S L R lawful slot e = zero_passes g H S L R lawful slot (yes_zero g H S L R e)

-- the other way round any demand that passes is passing
pub passes_passing : (g : ℕ → ℕ) (H S L R : ℕ) → Passes g S L R → passing g H S L R ≡ true
passes_passing g H S L R passes = passing_yes g H S L R (passes_zero g H S L R passes)

-- a larger reserve supplies no less at any length, so what was covered stays covered
pub passing_rises : (g : ℕ → ℕ) (H S L R R' : ℕ) → Allowed S L R → Allowed S L R' → R ≤ R' → passing g H S L R ≡ true → passing g H S L R' ≡ true
passing_rises g H S L R R' a a' le e =
    passing_yes g H S L R'
    (none_zero g H S L R'
    (λ t h k. holds g S L R' t (le_trans (has_held g S L R t (zero_none g H S L R (yes_zero g H S L R e) t h k)) (supply_rises S L R R' t a a' le))))
