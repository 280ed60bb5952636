-- Laws of the closest length where a demand gains. On the lengths that gain it steps where it does without, and its slack is less by the
-- extra; before and past them it is the same. At the end of the gain it may not step where it does without, but then no length there is
-- closer.
-- Assumes nothing.
use Prim.Native.Nat.{ℕ, ◌+◌, ◌-◌, ◌≤◌, ◌<◌}
use mathlib.Core.Path.{◌≡◌, refl, ap, subst, sym, ◌∙◌}
use mathlib.Core.Bool.{true}
use mathlib.Core.Logic.{⊎_elim}
use native.Mathlib.Nat.{le_refl, le_trans}
use native.Mathlib.Omega.{arith}
use borrow.Author.Tests.{le-ltb}
use Rattle.laws.proofs.Tests.{same_test}
use Rattle.laws.proofs.Orders.{le_or_lt}
use Rattle.demand.specs.Supply.{supply_past}
use Rattle.demand.specs.Lawful.{Rising}
use Rattle.demand.proofs.Supply.{supply_mono}
use Rattle.search.specs.Search.{NoneIn, Last, short, last_up_to}
use Rattle.steps.specs.Stepping.{StepsAt, steps}
use Rattle.steps.proofs.StepLaws.{does_step, has_stepped, steps_from}
use Rattle.slack.specs.Least.{least_from}
use Rattle.slack.specs.Slack.{slack_past}
use Rattle.slack.proofs.LeastLaws.{LeastFrom, from_is, from_found}
use Rattle.slack.proofs.Closing.{covered, last_there, last_asks}
use Rattle.masking.specs.declared.Gain.{Gain}
use Rattle.masking.specs.Masking.{gaining, gains_some}
use Rattle.masking.proofs.GainLaws.{gaining_in, gaining_before, gaining_after, gaining_above, gains_somewhere}
use Rattle.closeness.proofs.RangesLaws.{least_as, least_near, least_far}

-- two demands that rise together step together
pub steps_alike : (g h : ℕ → ℕ) (x : ℕ) → (StepsAt g x → StepsAt h x) → (StepsAt h x → StepsAt g x) → steps g x ≡ steps h x
steps_alike g h x to back =
    same_test (steps g x) (steps h x) (λ e. does_step h x (to (has_stepped g x e))) (λ e. does_step g x (back (has_stepped h x e)))

module _ (k : Gain) (g : ℕ → ℕ) (S f hi : ℕ) where
  abbrev asked : ℕ → ℕ
  asked = gaining k g

  -- where the gaining demand is covered, so is the one without
  pub plain_met : NoneIn (short asked S f 0) 0 hi → (x : ℕ) → 1 ≤ x → x ≤ hi → g x ≤ supply_past S f x
  plain_met all x h b = le_trans (gaining_above k x g) (covered asked S f 1 (omega arith) all x h b)

  pub plain_covered : NoneIn (short asked S f 0) 0 hi → (a b : ℕ) → b ≤ hi → NoneIn (short g S f 0) a b
  unfolding short
  plain_covered all a b within x h c =
      le-ltb (supply_past S f x) (g x + 0) (omega (arith, plain_met all x (omega arith) (omega arith)))

  -- ---- from the first length that gains on

  module _ (due : k.until ≤ hi) (rising : Rising g) (from_steps : steps g k.from ≡ true) (until_steps : steps g k.until ≡ true)
      (gains : gains_some k ≡ true) (usable : f < S) (all : NoneIn (short asked S f 0) 0 hi) where
    pub apart : k.from < k.until
    apart = (gains_somewhere k gains).1

    pub from_some : 1 ≤ k.from
    from_some = steps_from g k.from (has_stepped g k.from from_steps)

    met : (x : ℕ) → 1 ≤ x → x ≤ hi → asked x ≤ supply_past S f x
    met x a b = covered asked S f 1 (omega arith) all x a b

    near_steps : (x : ℕ) → k.from ≤ x → x ≤ k.until - 1 → steps asked x ≡ steps g x
    near_steps x a b =
        let here : asked x ≡ g x + k.extra = gaining_in k x g a (omega (arith, apart)) in
        ⊎_elim
        (λ (p : k.from ≤ x - 1).
        let old : asked (x - 1) ≡ g (x - 1) + k.extra = gaining_in k (x - 1) g p (omega (arith, apart)) in
        steps_alike asked g x (λ (h : StepsAt asked x). omega arith) (λ (h : StepsAt g x). omega arith))
        (λ (p : x - 1 < k.from).
        let old : asked (x - 1) ≡ g (x - 1) = gaining_before k (x - 1) g p in
        let begins : x ≡ k.from = omega arith in
        let first : steps g x ≡ true = ap (steps g) begins ∙ from_steps in
        steps_alike asked g x (λ (h : StepsAt asked x). has_stepped g x first) (λ (h : StepsAt g x). omega arith))
        (le_or_lt k.from (x - 1))

    near_slack : (x : ℕ) → k.from ≤ x → x ≤ k.until - 1 → slack_past asked S f x + k.extra ≡ slack_past g S f x
    unfolding slack_past
    near_slack x a b =
        omega (
          arith,
          gaining_in k x g a (omega (arith, apart)),
          met x (omega (arith, from_some)) (omega (arith, due, apart)),
        )

    far_slack : (x : ℕ) → k.until ≤ x → slack_past asked S f x ≡ slack_past g S f x
    unfolding slack_past
    far_slack x a = omega (arith, gaining_after k x g a)

    -- past the gain it steps only where it does without, and behind its end where it does
    far_stepped : (x : ℕ) → k.until ≤ x → steps asked x ≡ true → steps g x ≡ true
    far_stepped x a e =
        does_step g x
        (omega (arith, has_stepped asked x e, gaining_after k x g a, gaining_above k (x - 1) g))

    far_steps : (x : ℕ) → k.until < x → steps g x ≡ true → steps asked x ≡ true
    far_steps x a e =
        does_step asked x
        (omega (arith, has_stepped g x e, gaining_after k x g (omega arith), gaining_after k (x - 1) g (omega arith)))

    -- the closest of each range
    module _
        {near far : ℕ} (en : near ≡ least_from (steps g) (slack_past g S f) k.from (k.until - 1))
        (ef : far ≡ least_from (steps g) (slack_past g S f) k.until hi)
      where
        pub near_plain : LeastFrom (steps g) (slack_past g S f) k.from (k.until - 1) near
        near_plain =
            rw en
            (from_found (steps g) (slack_past g S f) k.from (k.until - 1) from_some k.from (le_refl k.from)
            (omega (arith, apart)) from_steps)

        pub far_plain : LeastFrom (steps g) (slack_past g S f) k.until hi far
        far_plain =
            rw ef
            (from_found (steps g) (slack_past g S f) k.until hi (omega (arith, apart)) k.until (le_refl k.until)
            due until_steps)

        near_least : LeastFrom (steps asked) (slack_past asked S f) k.from (k.until - 1) near
        near_least = least_as k.extra near_steps near_slack near_plain

        -- where the end of the gain is closer than all that gain, the demand steps there: it would else have no less to spare than the
        -- length before
        until_has : slack_past asked S f k.until < slack_past asked S f near → steps asked k.until ≡ true
        unfolding slack_past
        until_has less =
            let last = last_up_to (steps g) (k.until - 1) in
            let found = last_there g {t = k.until - 1} {last = last} from_steps (omega (arith, apart)) refl in
            let its : Last (steps g) (k.until - 1) last = found.0 in
            let same : g last ≡ g (k.until - 1) = last_asks g rising its in
            does_step asked k.until
            (omega (
              arith,
              near_least.least last found.1 its.within (near_steps last found.1 its.within ∙ its.has),
              gaining_in k last g found.1 (omega (arith, its.within, apart)),
              gaining_in k (k.until - 1) g (omega (arith, apart)) (omega (arith, apart)),
              met last its.there (omega (arith, its.within, due)),
              met k.until (omega (arith, apart)) due,
              supply_mono S f {t = last} {u = k.until} (omega arith) (omega (arith, its.within)),
            ))

        far_has : slack_past asked S f far < slack_past asked S f near → steps asked far ≡ true
        far_has less =
            ⊎_elim
            (λ (p : far ≤ k.until).
            let e : k.until ≡ far = omega (arith, far_plain.begins) in
            subst (λ (x : ℕ). slack_past asked S f x < slack_past asked S f near → steps asked x ≡ true) e until_has less)
            (λ (p : k.until < far). far_steps far p far_plain.has)
            (le_or_lt far k.until)

        far_least : slack_past asked S f far < slack_past asked S f near → LeastFrom (steps asked) (slack_past asked S f) k.until hi far
        far_least less =
            record {
              begins = far_plain.begins;
              within = far_plain.within;
              has = far_has less;
              least = λ x a b e.
                  omega (arith, far_slack far far_plain.begins, far_slack x a, far_plain.least x a b (far_stepped x a e));
              first = λ x a b e.
                  omega (arith, far_slack far far_plain.begins, far_slack x a, far_plain.first x a b (far_stepped x a e));
            }

        -- what the two have to spare decides, and of equals the first
        module _ {there-spare here-spare : ℕ} (sf : there-spare ≡ slack_past g S f far) (sn : here-spare ≡ slack_past g S f near) where
          pub far_closest : there-spare + k.extra < here-spare → far ≡ least_from (steps asked) (slack_past asked S f) k.from hi
          far_closest h =
              let less : slack_past asked S f far < slack_past asked S f near =
              omega (arith, far_slack far far_plain.begins, near_slack near near_plain.begins near_plain.within) in
              sym
              (from_is (steps asked) (slack_past asked S f) k.from hi from_some far
              (least_far apart near_least (far_least less) less))

          pub near_closest : here-spare ≤ there-spare + k.extra → near ≡ least_from (steps asked) (slack_past asked S f) k.from hi
          near_closest h =
              sym
              (from_is (steps asked) (slack_past asked S f) k.from hi from_some near
              (least_near (omega (arith, apart)) due near_least
              (λ x a b e.
              omega (
                arith,
                far_slack x a,
                near_slack near near_plain.begins near_plain.within,
                far_plain.least x a b (far_stepped x a e),
              ))))
