-- The descent of `closest`, over any demand that never falls: why it may jump, and what holds at each turn.
-- Assumes nothing.
use Prim.Native.Nat.{ℕ, pred, ◌+◌, ◌-◌, ◌≤◌, ◌<◌}
use native.Mathlib.Omega.{arith}
use native.Mathlib.Nat.{le_antisymm, le_of_eq, le_of_lt, eq-or-lt_of_le, eq-zero-or-pos, suc-pred-eq_of_pos}
use mathlib.Core.Path.{◌≡◌, refl, sym, ap, ◌∙◌}
use mathlib.Core.Logic.{⊎_elim}
use mathlib.Core.Bool.{true}
use borrow.Author.Tests.{ltb-false}
use Rattle.laws.proofs.Orders.{le_or_lt}
use Rattle.demand.specs.Lawful.{Rising}
use Rattle.demand.specs.Supply.{supply_past, last_with}
use Rattle.demand.proofs.Supply.{supply_mono}
use Rattle.demand.proofs.Reach.{supply_at_last, past_last, last_before}
use Rattle.search.specs.Search.{NoneIn, Last, short, last_up_to}
use Rattle.search.proofs.Bounded.{none_has, last_zero, last_found}
use Rattle.steps.specs.Stepping.{steps}
use Rattle.steps.proofs.StepLaws.{has_stepped, no_steps, steps_from}
use Rattle.slack.specs.Least.{least_from}
use Rattle.slack.specs.Slack.{slack_past}
use Rattle.slack.proofs.LeastLaws.{from_is}

-- no length from `from` to hi falls short
abbrev pub Covered : (g : ℕ → ℕ) → (S f from hi : ℕ) → Type 0
Covered g S f from hi = (x : ℕ) → from ≤ x → x ≤ hi → g x ≤ supply_past S f x

pub covered : (g : ℕ → ℕ) (S f from : ℕ) {hi : ℕ} → 1 ≤ from → NoneIn (short g S f 0) (pred from) hi → Covered g S f from hi
unfolding short
covered g S f from some none x h b =
    omega (arith, ltb-false (supply_past S f x) (g x + 0) (none x (omega (arith, suc-pred-eq_of_pos some)) b))

module _ (g : ℕ → ℕ) where
  -- from a step on there is a last step up to t, and it is no earlier
  pub last_there : {from t last : ℕ} → steps g from ≡ true → from ≤ t → last ≡ last_up_to (steps g) t → Last (steps g) t last × (from ≤ last)
  last_there {from} {t} {last} has h e =
      let some : 1 ≤ from = steps_from g from (has_stepped g from has) in
      let l : Last (steps g) t last =
      ⊎_elim
      (λ (z : last ≡ 0). none_has (last_zero (steps g) t (sym e ∙ z)) some h has)
      (λ (k : 1 ≤ last). last_found (steps g) t last (sym e) k)
      (eq-zero-or-pos last) in
      (l, ⊎_elim (λ (k : from ≤ last). k) (λ (k : last < from). none_has l.after k h has) (le_or_lt from last))

  -- and the demand there is that at t
  pub last_asks : {t last : ℕ} → Rising g → Last (steps g) t last → g last ≡ g t
  last_asks {t} {last} rising l = le_antisymm (rising last t l.within) (no_steps g last t l.within l.after)

  -- from a step on something is asked
  pub asks_some : {from t : ℕ} → Rising g → steps g from ≡ true → from ≤ t → 0 < g t
  asks_some {from} {t} rising has h = omega (arith, has_stepped g from has, rising from t h)

-- what holds at each turn: supply is the supply at t; best is a step, from `from` on, and least its slack; no step above t is closer, nor
-- as close where it stands before best
pub record Closing (g : ℕ → ℕ) (S f from hi t supply best least : ℕ) : Type 0 where
  pub within : t ≤ hi
  pub supplied : supply ≡ supply_past S f t
  pub there : from ≤ best
  pub best_within : best ≤ hi
  pub has : steps g best ≡ true
  pub spare : supply_past S f best ≡ g best + least
  pub above : (x : ℕ) → t < x → x ≤ hi → steps g x ≡ true → g x + least ≤ supply_past S f x
  pub before : (x : ℕ) → t < x → x < best → steps g x ≡ true → g x + least < supply_past S f x

-- what a turn leaves: the search goes on at the last length with supply v, which is below t
abbrev pub Closer : (g : ℕ → ℕ) → (S f from hi t v best least : ℕ) → Type 0
Closer g S f from hi t v best least = Closing g S f from hi (last_with S f v) v best least × (last_with S f v < t)

module _ (g : ℕ → ℕ) (S f from hi : ℕ) where
  pub closing_starts : {least supply : ℕ} → Covered g S f from hi → steps g from ≡ true → from ≤ hi →
      least ≡ supply_past S f from - g from → supply ≡ supply_past S f hi → Closing g S f from hi hi supply from least
  closing_starts all has h l s =
      record {
        within = omega arith;
        supplied = s;
        there = omega arith;
        best_within = h;
        has = has;
        spare = omega (arith, all from (omega arith) h);
        above = λ x a b. absurd (omega arith);
        before = λ x a b. absurd (omega arith);
      }

module _ {g : ℕ → ℕ} {S f from hi t supply best least : ℕ} (c : Closing g S f from hi t supply best least) where
  pub closing_ends : 1 ≤ from → t < from → best ≡ least_from (steps g) (slack_past g S f) from hi
  unfolding slack_past
  closing_ends some past =
      sym
      (from_is (steps g) (slack_past g S f) from hi some best
      (record {
        begins = c.there;
        within = c.best_within;
        has = c.has;
        least = λ x a b has. omega (arith, c.spare, c.above x (omega arith) b has);
        first = λ x a b has. omega (arith, c.spare, c.before x (omega arith) b has);
      }))

  -- one turn, in the code's terms, where the supply at t exceeds w + least: past the last length with that supply nothing is closer
  pub closing_passes : (w : ℕ) → Rising g → f < S → w ≡ g t → w + least < supply → Closer g S f from hi t (w + least) best least
  closing_passes w rising f<S e more =
      let falls : last_with S f (w + least) < t = last_before S f (w + least) t f<S (omega (arith, c.supplied)) in
      let new : (x : ℕ) → last_with S f (w + least) < x → x ≤ t → g x + least < supply_past S f x =
      λ x a b. omega (arith, past_last S f (w + least) x f<S a, rising x t b) in (
        record {
          within = omega (arith, c.within);
          supplied = sym (supply_at_last S f (w + least) f<S);
          there = c.there;
          best_within = c.best_within;
          has = c.has;
          spare = c.spare;
          above = λ x a b has. ⊎_elim (λ (p : x ≤ t). omega (arith, new x a p)) (λ (q : t < x). c.above x q b has) (le_or_lt x t);
          before = λ x a b has. ⊎_elim (λ (p : x ≤ t). new x a p) (λ (q : t < x). c.before x q b has) (le_or_lt x t);
        },
        falls,
      )

-- and one where it does not: the last step up to t is the closest so far, since between it and the length that the search goes on at
-- the supply is no less than there, and the demand is less
module _
    {g : ℕ → ℕ} {S f from hi t supply best least : ℕ} (rising : Rising g) (begins : steps g from ≡ true) (all : Covered g S f from hi)
    (c : Closing g S f from hi t supply best least) {w last reached : ℕ} (ew : w ≡ g t) (some : from ≤ t) (el : last ≡ last_up_to (steps g) t)
    (er : reached ≡ supply_past S f last)
  where
    its_last : Last (steps g) t last
    its_last = (last_there g {t = t} begins some el).0

    its_from : from ≤ last
    its_from = (last_there g {t = t} begins some el).1

    same : g last ≡ w
    same = last_asks g rising its_last ∙ sym ew

    pub last_covers : w ≤ reached
    last_covers = omega (arith, same, all last its_from (omega (arith, its_last.within, c.within)))

    -- no step past the last one is closer than that
    old : supply ≤ w + least → 1 ≤ S → (x : ℕ) → last < x → x ≤ hi → steps g x ≡ true → g x + (reached - w) ≤ supply_past S f x
    old less h x a b has =
        ⊎_elim
        (λ (p : x ≤ t). none_has its_last.after a p has)
        (λ (q : t < x). omega (arith, c.above x q b has, c.supplied, supply_mono S f {t = last} {u = t} h its_last.within))
        (le_or_lt x t)

    -- and those before it are further away
    new : f < S → (x : ℕ) → last_with S f (reached - 1) < x → x < last → g x + (reached - w) < supply_past S f x
    new f<S x a b =
        omega (arith, last_covers, same, past_last S f (reached - 1) x f<S a, rising x (last - 1) (omega arith), has_stepped g last its_last.has)

    its_own : {x : ℕ} → x ≡ last → g x + (reached - w) ≡ supply_past S f x
    its_own q = omega (arith, last_covers, same, ap g q, ap (supply_past S f) q)

    pub closing_moves : f < S → supply ≤ w + least → Closer g S f from hi t (reached - 1) last (reached - w)
    closing_moves f<S less =
        let falls : last_with S f (reached - 1) < last =
        last_before S f (reached - 1) last f<S (omega (arith, last_covers, ew, asks_some g rising begins some)) in
        let inside : last ≤ hi = omega (arith, its_last.within, c.within) in (
          record {
            within = omega arith;
            supplied = sym (supply_at_last S f (reached - 1) f<S);
            there = its_from;
            best_within = inside;
            has = its_last.has;
            spare = sym (its_own refl);
            above = λ x a b has.
                ⊎_elim
                (λ (p : x ≤ last). ⊎_elim (λ q. le_of_eq (its_own q)) (λ q. le_of_lt (new f<S x a q)) (eq-or-lt_of_le p))
                (λ (q : last < x). old less (omega arith) x q b has)
                (le_or_lt x last);
            before = λ x a b has. new f<S x a b;
          },
          omega (arith, its_last.within),
        )
