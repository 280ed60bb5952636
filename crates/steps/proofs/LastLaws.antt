-- Laws of the last step of a demand that never falls: it is where the demand comes to what it is at the bound. So it is known of one load,
-- of two demands together, and of the greater of two.
-- Assumes nothing.
use Prim.Native.Nat.{ℕ, ◌+◌, ◌*◌, ◌-◌, ◌/◌, ◌%◌, ◌≤◌, ◌<◌, min, max}
use mathlib.Core.Path.{◌≡◌, ap, sym, ◌∙◌}
use mathlib.Core.Bool.{false, cond}
use mathlib.Core.Logic.{⊎_elim}
use native.Mathlib.Nat.{div-add-mod', mod-lt, mul-le-mul_left, mul-le-mul_right, mul-lt-mul_of_pos_left, eq-zero-or-pos, le_trans, le_of_eq}
use native.Mathlib.Omega.{arith}
use lib.Dec.{ltb}
use Rattle.laws.proofs.Tests.{never_true}
use Rattle.laws.proofs.Orders.{le_or_lt}
use Rattle.laws.proofs.Choices.{cond_ltb, cond_ltb_not}
use Rattle.demand.specs.Demand.{jobs}
use Rattle.demand.specs.Lawful.{Rising}
use Rattle.demand.proofs.Demand.{jobs_none, jobs_mono, jobs_stays}
use Rattle.search.specs.Search.{last_up_to}
use Rattle.search.proofs.Bounded.{last_view, last_none, last_is}
use Rattle.steps.specs.Stepping.{StepsAt, steps, last_of_greater}
use Rattle.steps.proofs.StepLaws.{does_step, has_stepped, no_steps, jobs_step}

-- from `last` on the demand is what it is at hi, and before it less, if there is a length before it
pub record LastStep (g : ℕ → ℕ) (hi last : ℕ) : Type 0 where
  pub within : last ≤ hi
  pub comes : g hi ≤ g last
  pub steps : 1 ≤ last → StepsAt g last

module _ (g : ℕ → ℕ) (hi : ℕ) where
  pub its_last : LastStep g hi (last_up_to (steps g) hi)
  its_last =
      ⊎_elim
      (λ v.
      let z : last_up_to (steps g) hi ≡ 0 = v.0 in
      record {
        within = omega arith;
        comes = le_trans (no_steps g 0 hi (omega arith) v.1) (le_of_eq (ap g (sym z)));
        steps = λ (h : 1 ≤ last_up_to (steps g) hi). absurd (omega arith);
      })
      (λ l. record { within = l.within; comes = no_steps g (last_up_to (steps g) hi) hi l.within l.after; steps = λ h. has_stepped g (last_up_to (steps g) hi) l.has })
      (last_view (steps g) hi)

  pub last_by : Rising g → (last : ℕ) → LastStep g hi last → last_up_to (steps g) hi ≡ last
  last_by rising last l =
      let after : (x : ℕ) → last < x → x ≤ hi → steps g x ≡ false = λ x a b.
      never_true (steps g x) (λ e. omega (arith, has_stepped g x e, l.comes, rising last (x - 1) (omega arith), rising x hi b)) in
      ⊎_elim
      (λ (z : last ≡ 0). last_none (steps g) hi (λ x a b. after x (omega arith) b) ∙ sym z)
      (λ (h : 1 ≤ last). last_is (steps g) hi last (record { there = h; within = l.within; has = does_step g last (l.steps h); after = after }))
      (eq-zero-or-pos last)

-- ---- two demands

module _ (f g : ℕ → ℕ) (hi : ℕ) (rf : Rising f) (rg : Rising g) where
  both_rising : Rising (λ t. f t + g t)
  both_rising t u h = omega (arith, rf t u h, rg t u h)

  greater_rising : Rising (λ t. max (f t) (g t))
  greater_rising t u h = omega (arith, rf t u h, rg t u h)

  -- the larger of two last steps
  together : (x y : ℕ) → LastStep f hi x → LastStep g hi y → LastStep (λ t. f t + g t) hi (max x y)
  together x y lx ly =
      ⊎_elim
      (λ (h : x ≤ y).
      let e : max x y ≡ y = omega arith in
      rw e
      (record {
        within = ly.within;
        comes = omega (arith, ly.comes, lx.comes, rf x y h);
        steps = λ (k : 1 ≤ y). omega (arith, ly.steps k, rf (y - 1) y (omega arith));
      }))
      (λ (h : y < x).
      let e : max x y ≡ x = omega arith in
      rw e
      (record {
        within = lx.within;
        comes = omega (arith, ly.comes, lx.comes, rg y x (omega arith));
        steps = λ (k : 1 ≤ x). omega (arith, lx.steps k, rg (x - 1) x (omega arith));
      }))
      (le_or_lt x y)

  pub last_together : last_up_to (steps (λ t. f t + g t)) hi ≡ max (last_up_to (steps f) hi) (last_up_to (steps g) hi)
  last_together =
      last_by (λ t. f t + g t) hi both_rising (max (last_up_to (steps f) hi) (last_up_to (steps g) hi))
      (together (last_up_to (steps f) hi) (last_up_to (steps g) hi) (its_last f hi) (its_last g hi))

  -- the larger one's, and of two that are equal the sooner
  first_greater : (x y : ℕ) → LastStep f hi x → LastStep g hi y → g hi < f hi → LastStep (λ t. max (f t) (g t)) hi x
  first_greater x y lx ly h =
      record {
        within = lx.within;
        comes = omega (arith, lx.comes);
        steps = λ (k : 1 ≤ x). omega (arith, lx.steps k, lx.comes, rg (x - 1) hi (omega (arith, lx.within)));
      }

  second_greater : (x y : ℕ) → LastStep f hi x → LastStep g hi y → f hi < g hi → LastStep (λ t. max (f t) (g t)) hi y
  second_greater x y lx ly h =
      record {
        within = ly.within;
        comes = omega (arith, ly.comes);
        steps = λ (k : 1 ≤ y). omega (arith, ly.steps k, ly.comes, rf (y - 1) hi (omega (arith, ly.within)));
      }

  equally : (x y : ℕ) → LastStep f hi x → LastStep g hi y → f hi ≡ g hi → LastStep (λ t. max (f t) (g t)) hi (min x y)
  equally x y lx ly e =
      ⊎_elim
      (λ (h : x ≤ y).
      let m : min x y ≡ x = omega arith in
      rw m
      (record {
        within = lx.within;
        comes = omega (arith, lx.comes);
        steps = λ (k : 1 ≤ x).
            omega (arith, lx.steps k, lx.comes, ly.steps (omega arith), rg (x - 1) (y - 1) (omega arith), rg y hi ly.within);
      }))
      (λ (h : y < x).
      let m : min x y ≡ y = omega arith in
      rw m
      (record {
        within = ly.within;
        comes = omega (arith, ly.comes);
        steps = λ (k : 1 ≤ y).
            omega (arith, ly.steps k, ly.comes, lx.steps (omega arith), rf (y - 1) (x - 1) (omega arith), rf x hi lx.within);
      }))
      (le_or_lt x y)

  greater : (x y : ℕ) → LastStep f hi x → LastStep g hi y → LastStep (λ t. max (f t) (g t)) hi (last_of_greater (f hi) x (g hi) y)
  unfolding last_of_greater
  greater x y lx ly =
      ⊎_elim
      (λ (le : g hi ≤ f hi).
      ⊎_elim
      (λ (ge : f hi ≤ g hi).
      rw (cond_ltb_not y (cond (ltb (g hi) (f hi)) x (min x y)) le, cond_ltb_not x (min x y) ge) (equally x y lx ly (omega arith)))
      (λ (lt : g hi < f hi). rw (cond_ltb_not y (cond (ltb (g hi) (f hi)) x (min x y)) le, cond_ltb x (min x y) lt) (first_greater x y lx ly lt))
      (le_or_lt (f hi) (g hi)))
      (λ (lt : f hi < g hi). rw (cond_ltb y (cond (ltb (g hi) (f hi)) x (min x y)) lt) (second_greater x y lx ly lt))
      (le_or_lt (g hi) (f hi))

  pub last_greater : last_up_to (steps (λ t. max (f t) (g t))) hi ≡ last_of_greater (f hi) (last_up_to (steps f) hi) (g hi) (last_up_to (steps g) hi)
  last_greater =
      last_by (λ t. max (f t) (g t)) hi greater_rising (last_of_greater (f hi) (last_up_to (steps f) hi) (g hi) (last_up_to (steps g) hi))
      (greater (last_up_to (steps f) hi) (last_up_to (steps g) hi) (its_last f hi) (its_last g hi))

-- ---- one load: what is past a whole number of periods is taken off

-- d + q·T is the last of them where less than a period is left
past_whole : (d T q j r : ℕ) → r < T → d + q * T < d + j * T → d + j * T ≤ d + q * T + r → ⊥
past_whole d T q j r h p g =
    ⊎_elim
    (λ (le : j ≤ q). let m : j * T ≤ q * T = mul-le-mul_right T le in omega arith)
    (λ (lt : q < j). let m : (q + 1) * T ≤ j * T = mul-le-mul_right T (omega arith) in omega arith)
    (le_or_lt j q)

module _ (d T hi : ℕ) (some : 1 ≤ d) (constrained : d ≤ T) where
  pub jobs_rising : Rising (jobs d T)
  jobs_rising t u h = jobs_mono d T (omega arith) constrained h

  pub last_due : d ≤ hi → last_up_to (steps (jobs d T)) hi ≡ hi - (hi - d) % T
  last_due h =
      let q = (hi - d) / T in
      let last = hi - (hi - d) % T in
      let whole : last ≡ d + q * T = omega (arith, div-add-mod' (hi - d) T) in
      last_by (jobs d T) hi jobs_rising last
      (record {
        within = omega arith;
        comes = le_of_eq (sym (jobs_stays d T {t = last} {u = hi} (omega arith) constrained (omega arith)
            (λ j a b. past_whole d T q j ((hi - d) % T) (mod-lt (hi - d) (omega arith)) (omega arith) (omega (arith, div-add-mod' (hi - d) T)))));
        steps = λ k. rw whole (jobs_step d T q some constrained);
      })

  pub last_early : hi < d → last_up_to (steps (jobs d T)) hi ≡ 0
  last_early h =
      last_by (jobs d T) hi jobs_rising 0
      (record { within = omega arith; comes = omega (arith, jobs_none {d = d} {t = hi} T h); steps = λ (k : 1 ≤ 0). absurd (omega arith) })

  -- so many times as much steps where one does
  pub last_term : (c : ℕ) → 1 ≤ c → last_up_to (steps (λ t. c * jobs d T t)) hi ≡ last_up_to (steps (jobs d T)) hi
  last_term c h =
      let l = its_last (jobs d T) hi in
      last_by (λ t. c * jobs d T t) hi (λ t u g. mul-le-mul_left c (jobs_rising t u g)) (last_up_to (steps (jobs d T)) hi)
      (record {
        within = l.within;
        comes = mul-le-mul_left c l.comes;
        steps = λ k. mul-lt-mul_of_pos_left (l.steps k) h;
      })
