-- How close a demand comes: the least slack up to a horizon is the least of all lengths where the demand steps, and there is no other.
-- Assumes nothing.
use Prim.Native.Nat.{ℕ, zero, suc, ◌+◌, ◌-◌, ◌≤◌, ◌<◌}
use native.Mathlib.Omega.{arith}
use native.Mathlib.Nat.{le_refl}
use mathlib.Core.Path.{◌≡◌, refl, subst}
use mathlib.Core.Logic.{◌⊎◌, inl, inr, ⊎_elim}
use mathlib.Core.Bool.{Bool, true, false}
use Rattle.laws.proofs.Tests.{never_true}
use Rattle.laws.proofs.Orders.{eq_by_cases, le_or_lt}
use Rattle.demand.specs.Lawful.{Lawful}
use Rattle.demand.specs.Supply.{supply}
use Rattle.demand.specs.Passes.{Passes}
use Rattle.demand.proofs.Claims.{horizon_decides}
use Rattle.demand.proofs.Horizon.{supply_gains}
use Rattle.demand.proofs.Steps.{supply_grows}
use Rattle.search.specs.Search.{NoneIn}
use Rattle.search.proofs.Bounded.{none_more, none_less, none_has}
use Rattle.steps.specs.Stepping.{StepsAt, steps}
use Rattle.steps.proofs.StepLaws.{does_step, has_stepped, no_step_stays, no_steps, steps_from}
use Rattle.slack.specs.Least.{Least}
use Rattle.slack.specs.Slack.{slack}
use Rattle.slack.proofs.LeastLaws.{least_view, least_none}
use Rattle.verdict.specs.Verdict.{closest}
use Rattle.verdict.specs.Claims.{Closest}

-- ---- steps of any demand

-- a length is a step, or it is none
step_view : (g : ℕ → ℕ) (x : ℕ) → (steps g x ≡ true) ⊎ (steps g x ≡ false)
step_view g x = by (steps g x) refl
  where
    by : (b : Bool) → steps g x ≡ b → (steps g x ≡ true) ⊎ (steps g x ≡ false)
    by true e = inl e
    by false e = inr e

-- up to where no length steps nothing is asked
none_asked : (g : ℕ → ℕ) (n : ℕ) → g 0 ≡ 0 → NoneIn (steps g) 0 n → g n ≡ 0
none_asked g n e none = omega (arith, no_steps g 0 n (omega arith) none)

-- a demand that asks nothing never steps
asked_none : (g : ℕ → ℕ) → ((x : ℕ) → g x ≡ 0) → (n : ℕ) → NoneIn (steps g) 0 n
asked_none g never n x a b =
    never_true (steps g x) (λ (e : steps g x ≡ true). omega (arith, has_stepped g x e, never x))

-- a lawful demand without a step up to its horizon asks nothing at any length
never_asks : (g : ℕ → ℕ) (H : ℕ) → Lawful g H → NoneIn (steps g) 0 H → (t : ℕ) → g t ≡ 0
never_asks g H lawful none zero = lawful.none
never_asks g H lawful none (suc t) =
    let within : (x : ℕ) → 1 ≤ x → x ≤ H → g x ≤ 0 = λ x a b. omega (arith, none_asked g x lawful.none (none_less none b)) in
    omega (arith, horizon_decides g (λ (x : ℕ). 0) H lawful.horizon lawful.turns (λ x. le_refl 0) within (suc t) (omega arith))

-- ---- from step to step, and from horizon to horizon

-- where the demand does not step the slack does not fall
slack_stays : (g : ℕ → ℕ) (S L R x : ℕ) → 1 ≤ S → steps g (suc x) ≡ false → slack g S L R x ≤ slack g S L R (suc x)
unfolding slack
slack_stays g S L R x slot e = omega (arith, no_step_stays g x e, supply_grows S L R {t = x} {u = suc x} slot (omega arith))

-- H ticks more leave no less slack, where the demand at H is covered
slack_gains : (g : ℕ → ℕ) (H S L R t : ℕ) → Lawful g H → 1 ≤ S → g H ≤ supply S L R H → slack g S L R t ≤ slack g S L R (t + H)
unfolding slack
slack_gains g H S L R t lawful slot covered = omega (arith, lawful.turns t, supply_gains S L R t H slot)

-- and no less than at H, where nothing was asked before
slack_again : (g : ℕ → ℕ) (H S L R t : ℕ) → Lawful g H → 1 ≤ S → g t ≡ 0 → slack g S L R H ≤ slack g S L R (t + H)
unfolding slack
slack_again g H S L R t lawful slot e = omega (arith, lawful.turns t, supply_gains S L R t H slot)

-- from its first step on no length at all is closer
pub none_closer : (g : ℕ → ℕ) (S L R t w s m x : ℕ) → 1 ≤ S → Closest g S L R t w s → StepsAt g m → m ≤ x → s - w ≤ supply S L R x - g x
unfolding slack
none_closer g S L R t w s m zero slot c st h = absurd (omega (arith, steps_from g m st))
none_closer g S L R t w s m (suc x) slot c st h =
    ⊎_elim
    (λ (e : steps g (suc x) ≡ true). c.least (suc x) (has_stepped g (suc x) e))
    (λ (e : steps g (suc x) ≡ false).
    ⊎_elim
    (λ (k : m ≤ x). omega (arith, none_closer g S L R t w s m x slot c st k, slack_stays g S L R x slot e))
    (λ (k : x < m). c.least (suc x) (subst (λ (y : ℕ). StepsAt g y) (omega arith) st))
    (le_or_lt m x))
    (step_view g (suc x))

-- and each before it, from there on, has more to spare
pub all_further : (g : ℕ → ℕ) (S L R t w s m x : ℕ) → 1 ≤ S → Closest g S L R t w s → StepsAt g m → m ≤ x → x < t → s - w < supply S L R x - g x
unfolding slack
all_further g S L R t w s m zero slot c st h b = absurd (omega (arith, steps_from g m st))
all_further g S L R t w s m (suc x) slot c st h b =
    ⊎_elim
    (λ (e : steps g (suc x) ≡ true). c.first (suc x) (has_stepped g (suc x) e) b)
    (λ (e : steps g (suc x) ≡ false).
    ⊎_elim
    (λ (k : m ≤ x). omega (arith, all_further g S L R t w s m x slot c st k (omega arith), slack_stays g S L R x slot e))
    (λ (k : x < m). c.first (suc x) (subst (λ (y : ℕ). StepsAt g y) (omega arith) st) b)
    (le_or_lt m x))
    (step_view g (suc x))

-- ---- the least up to the horizon is the least of all

module _ (g : ℕ → ℕ) (H S L R : ℕ) (lawful : Lawful g H) (slot : 1 ≤ S) (passes : Passes g S L R)
    {b : ℕ} (l : Least (steps g) (slack g S L R) H b) where
  -- no step up to x, or no less slack there than at b
  abbrev Kept : ℕ → Type 0
  Kept x = NoneIn (steps g) 0 x ⊎ (slack g S L R b ≤ slack g S L R x)

  kept_next : (x : ℕ) → suc x ≤ H → (steps g (suc x) ≡ true) ⊎ (steps g (suc x) ≡ false) → Kept x → Kept (suc x)
  kept_next x h (inl e) kept = inr (l.least (suc x) (omega arith) h e)
  kept_next x h (inr e) (inl none) = inl (none_more none e)
  kept_next x h (inr e) (inr le) = inr (omega (arith, slack_stays g S L R x slot e))

  kept_within : (x : ℕ) → x ≤ H → Kept x
  kept_within zero h = inl (λ x a b. absurd (omega arith))
  kept_within (suc x) h = kept_next x h (step_view g (suc x)) (kept_within x (omega arith))

  kept_turn : (t : ℕ) → Kept H → Kept t → Kept (t + H)
  kept_turn t (inl none) kept = none_has none l.there l.within l.has
  kept_turn t (inr le) (inl none) = inr (omega (arith, slack_again g H S L R t lawful slot (none_asked g t lawful.none none)))
  kept_turn t (inr le) (inr kept) = inr (omega (arith, slack_gains g H S L R t lawful slot (passes H lawful.horizon)))

  -- n bounds how often H can be taken off
  kept_all : (n x : ℕ) → x ≤ n → Kept x
  kept_all zero x h = kept_within x (omega arith)
  kept_all (suc n) x h =
      ⊎_elim
      (kept_within x)
      (λ (q : H < x).
      let e : x - H + H ≡ x = omega arith in
      subst Kept e (kept_turn (x - H) (kept_within H (le_refl H)) (kept_all n (x - H) (omega (arith, lawful.horizon)))))
      (le_or_lt x H)

  step_kept : (x : ℕ) → StepsAt g x → slack g S L R b ≤ slack g S L R x
  step_kept x st =
      ⊎_elim (λ none. none_has none (steps_from g x st) (le_refl x) (does_step g x st)) (λ le. le) (kept_all x x (le_refl x))

  least_closest : Closest g S L R b (g b) (supply S L R b)
  unfolding slack
  least_closest =
      record {
        steps = has_stepped g b l.has;
        demanded = refl;
        supplied = refl;
        least = step_kept;
        first = λ x st h. l.first x (steps_from g x st) h (does_step g x st);
      }

-- two closest lengths are one
closest_one : {g : ℕ → ℕ} {S L R t u v w r s : ℕ} → Closest g S L R t v r → Closest g S L R u w s → t ≡ u
closest_one {t = t} {u = u} c d =
    eq_by_cases t u
    (λ (h : t < u). omega (arith, d.first t c.steps h, c.least u d.steps, c.demanded, c.supplied, d.demanded, d.supplied))
    (λ (h : u < t). omega (arith, c.first u d.steps h, d.least t c.steps, c.demanded, c.supplied, d.demanded, d.supplied))

-- the closest length up to the horizon is 0 where nothing is ever asked, and else the closest of all
pub closest_view : (g : ℕ → ℕ) (H S L R : ℕ) → Lawful g H → 1 ≤ S → Passes g S L R
    → ((closest g H S L R ≡ 0) × ((t : ℕ) → g t ≡ 0)) ⊎ Closest g S L R (closest g H S L R) (g (closest g H S L R)) (supply S L R (closest g H S L R))
unfolding closest
closest_view g H S L R lawful slot passes =
    ⊎_elim
    (λ v. inl (v.0, never_asks g H lawful v.1))
    (λ l. inr (least_closest g H S L R lawful slot passes l))
    (least_view (steps g) (slack g S L R) H)

pub closest_none : (g : ℕ → ℕ) (H S L R : ℕ) → ((x : ℕ) → g x ≡ 0) → closest g H S L R ≡ 0
unfolding closest
closest_none g H S L R never = least_none (steps g) (slack g S L R) H (asked_none g never H)

-- one that is closest is found, under any horizon
pub closest_is : (g : ℕ → ℕ) (H S L R t w s : ℕ) → Lawful g H → 1 ≤ S → Passes g S L R → Closest g S L R t w s → closest g H S L R ≡ t
closest_is g H S L R t w s lawful slot passes c =
    ⊎_elim
    (λ v. absurd (omega (arith, c.steps, v.1 t)))
    (λ d. closest_one d c)
    (closest_view g H S L R lawful slot passes)
