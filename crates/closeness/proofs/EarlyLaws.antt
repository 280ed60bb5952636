-- The closest of all lengths, from the first at which something is asked: where nothing is gained, and where the closest before the gain
-- and the closest from there on are known.
-- Assumes nothing.
use Prim.Native.Nat.{ℕ, ◌+◌, ◌-◌, ◌≤◌, ◌<◌}
use mathlib.Core.Path.{◌≡◌, sym, ◌∙◌}
use mathlib.Core.Bool.{true, false}
use native.Mathlib.Nat.{le_refl}
use native.Mathlib.Omega.{arith}
use Rattle.laws.proofs.Tests.{never_true}
use Rattle.search.specs.Search.{NoneIn, short}
use Rattle.steps.specs.Stepping.{StepsAt, steps}
use Rattle.steps.proofs.StepLaws.{does_step, has_stepped, steps_from}
use Rattle.slack.specs.Least.{least_up_to, least_from}
use Rattle.slack.specs.Slack.{slack_past}
use Rattle.slack.proofs.LeastLaws.{LeastFrom, least_is, least_none, from_found}
use Rattle.slack.proofs.Closing.{covered}
use Rattle.masking.specs.declared.Gain.{Gain}
use Rattle.masking.specs.Masking.{gaining, gain_at, gains_some}
use Rattle.masking.proofs.GainLaws.{gaining_in, gaining_before, gaining_none, gains_somewhere}
use Rattle.closeness.specs.Begins.{Begins}
use Rattle.closeness.proofs.RangesLaws.{least_as, least_all, least_near, least_far}
use Rattle.closeness.proofs.BeginsLaws.{begins_steps}
use Rattle.closeness.proofs.GainedLaws.{steps_alike}

module _ (k : Gain) (g : ℕ → ℕ) (S f hi : ℕ) where
  abbrev asked : ℕ → ℕ
  asked = gaining k g

  -- where nothing is asked up to hi none steps
  pub closest_none : ((x : ℕ) → x ≤ hi → asked x ≡ 0) → 0 ≡ least_up_to (steps asked) (slack_past asked S f) hi
  closest_none nothing =
      sym
      (least_none (steps asked) (slack_past asked S f) hi
      (λ x a b. never_true (steps asked x) (λ (e : steps asked x ≡ true). omega (arith, has_stepped asked x e, nothing x b))))

  module _ {first : ℕ} (begins : Begins g first) (some : 1 ≤ first) where
    none_before : (x : ℕ) → x < first → asked x ≡ g x → steps asked x ≡ true → ⊥
    none_before x h same e = omega (arith, has_stepped asked x e, same, begins.none x h)

    -- ---- where nothing is gained

    pub closest_ungained : {t : ℕ} → first ≤ hi → gains_some k ≡ false → t ≡ least_from (steps g) (slack_past g S f) first hi →
        t ≡ least_up_to (steps asked) (slack_past asked S f) hi
    unfolding slack_past
    closest_ungained within nothing e =
        e ∙
        sym
        (least_is (steps asked) (slack_past asked S f) hi (least_from (steps g) (slack_past g S f) first hi)
        (least_all some (λ x a. none_before x a (same x))
        (least_as 0
        (λ x a b. steps_alike asked g x
        (λ (h : StepsAt asked x). omega (arith, same x, same (x - 1)))
        (λ (h : StepsAt g x). omega (arith, same x, same (x - 1))))
        (λ x a b. omega (arith, same x))
        (from_found (steps g) (slack_past g S f) first hi some first (le_refl first) within (begins_steps begins some)))))
      where
        same : (x : ℕ) → asked x ≡ g x
        same x = gaining_none k x g nothing

    -- ---- where some length gains, with the closest from there on

    module _
        (due : k.until ≤ hi) (from_steps : steps g k.from ≡ true) (gains : gains_some k ≡ true) (all : NoneIn (short asked S f 0) 0 hi) {late : ℕ}
        (el : late ≡ least_from (steps asked) (slack_past asked S f) k.from hi)
      where
        from_some : 1 ≤ k.from
        from_some = steps_from g k.from (has_stepped g k.from from_steps)

        apart : k.from < k.until
        apart = (gains_somewhere k gains).1

        from_stepped : steps asked k.from ≡ true
        from_stepped =
            does_step asked k.from
            (omega (
              arith,
              has_stepped g k.from from_steps,
              gaining_in k k.from g (omega arith) apart,
              gaining_before k (k.from - 1) g (omega (arith, from_some)),
            ))

        pub late_least : LeastFrom (steps asked) (slack_past asked S f) k.from hi late
        late_least =
            rw el
            (from_found (steps asked) (slack_past asked S f) k.from hi from_some k.from (le_refl k.from) (omega (arith, apart)) from_stepped)

        -- where nothing is asked before the gain that is the closest
        pub late_alone : k.from ≤ first → late ≡ least_up_to (steps asked) (slack_past asked S f) hi
        late_alone h =
            sym
            (least_is (steps asked) (slack_past asked S f) hi late
            (least_all from_some (λ x a. none_before x (omega arith) (gaining_before k x g a)) late_least))

        -- and else the closest before it, or that, whichever has less to spare
        module _ (before : first < k.from) {early : ℕ} (ee : early ≡ least_from (steps g) (slack_past g S f) first (k.from - 1)) where
          pub early_plain : LeastFrom (steps g) (slack_past g S f) first (k.from - 1) early
          early_plain = rw ee (from_found (steps g) (slack_past g S f) first (k.from - 1) some first (le_refl first) (omega arith) (begins_steps begins some))

          early_least : LeastFrom (steps asked) (slack_past asked S f) first (k.from - 1) early
          unfolding slack_past
          early_least =
              least_as 0
              (λ x a b. steps_alike asked g x
              (λ (h : StepsAt asked x). omega (arith, same x b, same (x - 1) (omega arith)))
              (λ (h : StepsAt g x). omega (arith, same x b, same (x - 1) (omega arith))))
              (λ x a b. omega (arith, same x b))
              early_plain
            where
              same : (x : ℕ) → x ≤ k.from - 1 → asked x ≡ g x
              same x b = gaining_before k x g (omega arith)

          none_first : (x : ℕ) → x < first → steps asked x ≡ true → ⊥
          none_first x h = none_before x h (gaining_before k x g (omega arith))

          early_slack : slack_past asked S f early ≡ slack_past g S f early
          unfolding slack_past
          early_slack = omega (arith, gaining_before k early g (omega (arith, early_plain.within, from_some)))

          late_slack : slack_past asked S f late + gain_at k late ≡ slack_past g S f late
          unfolding slack_past gaining
          late_slack = omega (arith, covered asked S f 1 (omega arith) all late (omega (arith, late_least.begins, from_some)) late_least.within)

          module _ {late-spare early-spare : ℕ} (sl : late-spare ≡ slack_past g S f late) (se : early-spare ≡ slack_past g S f early) where
            pub late_closest : late-spare < early-spare + gain_at k late → late ≡ least_up_to (steps asked) (slack_past asked S f) hi
            late_closest h =
                sym
                (least_is (steps asked) (slack_past asked S f) hi late
                (least_all some none_first (least_far before early_least late_least (omega (arith, early_slack, late_slack)))))

            pub early_closest : early-spare + gain_at k late ≤ late-spare → early ≡ least_up_to (steps asked) (slack_past asked S f) hi
            early_closest h =
                sym
                (least_is (steps asked) (slack_past asked S f) hi early
                (least_all some none_first
                (least_near from_some (omega (arith, apart)) early_least
                (λ x a b e. omega (arith, early_slack, late_slack, late_least.least x a b e)))))
