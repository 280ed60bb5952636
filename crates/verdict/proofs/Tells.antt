-- What a verdict tells: yes of the closest length, no of the first that fails, and both of all lengths.
-- Assumes nothing.
use Prim.Native.Nat.{ℕ, ◌≤◌}
use native.Mathlib.Omega.{arith}
use native.Mathlib.Nat.{eq-zero-or-pos}
use mathlib.Core.Path.{◌≡◌, refl, sym, ap, ◌∙◌}
use mathlib.Core.Logic.{⊎_elim}
use mathlib.Core.Bool.{false≢true}
use Rattle.demand.specs.Lawful.{Lawful}
use Rattle.demand.specs.Supply.{gap, supply}
use Rattle.demand.specs.Passes.{Passes}
use Rattle.demand.proofs.Supply.{supply_within, supply_gap}
use Rattle.search.specs.Search.{First}
use Rattle.search.proofs.Bounded.{first_within}
use Rattle.steps.specs.Stepping.{steps}
use Rattle.slack.specs.Slack.{slack}
use Rattle.slack.proofs.LeastLaws.{least_within}
use Rattle.verdict.specs.Verdict.{failing, first_failing, closest, reading_at, verdict_of, is_yes, reading_of, passing}
use Rattle.verdict.specs.Claims.{Closest, FailsFirst, VerdictTells}
use Rattle.verdict.specs.declared.answer.Verdict.{Verdict}
use Rattle.verdict.specs.declared.answer.Verdict.TheVariants.{Yes, No}
use Rattle.verdict.proofs.Verdict.{fails, holds, has_failed, has_held, passes_zero, fails_first, zero_passes, first_fails, same_first, verdict_yes, verdict_no, yes_zero}
use Rattle.verdict.proofs.ClosestLaws.{closest_view, closest_none, closest_is}

-- ---- yes

-- a verdict of yes comes from no failing length
told_zero : (g : ℕ → ℕ) (H S L R t w s : ℕ) → verdict_of g H S L R ≡ Yes (record { length = t; demand = w; supply = s }) → first_failing g H S L R ≡ 0
unfolding passing
told_zero g H S L R t w s e = yes_zero g H S L R (ap is_yes e)

pub yes_closest : (g : ℕ → ℕ) (H S L R a : ℕ) → Lawful g H → 1 ≤ S → 1 ≤ g a → (t w s : ℕ)
    → verdict_of g H S L R ≡ Yes (record { length = t; demand = w; supply = s }) → Passes g S L R × Closest g S L R t w s
unfolding reading_at
yes_closest g H S L R a lawful slot some t w s e =
    let passes = zero_passes g H S L R lawful slot (told_zero g H S L R t w s e) in
    let r = sym (verdict_yes g H S L R (told_zero g H S L R t w s e)) ∙ e in
    let t≡ : closest g H S L R ≡ t = ap (λ (v : Verdict). (reading_of v).length) r in
    let w≡ : g (closest g H S L R) ≡ w = ap (λ (v : Verdict). (reading_of v).demand) r in
    let s≡ : supply S L R (closest g H S L R) ≡ s = ap (λ (v : Verdict). (reading_of v).supply) r in (
      passes,
      ⊎_elim
          (λ v. absurd (omega (arith, some, v.1 a)))
          (λ (c : Closest g S L R (closest g H S L R) (g (closest g H S L R)) (supply S L R (closest g H S L R))). rw (w≡, s≡, t≡) at c)
          (closest_view g H S L R lawful slot passes),
    )

pub closest_yes : (g : ℕ → ℕ) (H S L R : ℕ) → Lawful g H → 1 ≤ S → (t w s : ℕ)
    → Passes g S L R → Closest g S L R t w s → verdict_of g H S L R ≡ Yes (record { length = t; demand = w; supply = s })
unfolding reading_at
closest_yes g H S L R lawful slot t w s passes c =
    rw (c.demanded, c.supplied, ← (closest_is g H S L R t w s lawful slot passes c)) (verdict_yes g H S L R (passes_zero g H S L R passes))

-- ---- no

pub no_fails : (g : ℕ → ℕ) (H S L R t w s : ℕ) → verdict_of g H S L R ≡ No (record { length = t; demand = w; supply = s }) → FailsFirst g S L R t w s
unfolding reading_at
no_fails g H S L R t w s e =
    ⊎_elim
    (λ z. absurd (false≢true (sym (ap is_yes e) ∙ ap is_yes (verdict_yes g H S L R z))))
    found
    (eq-zero-or-pos (first_failing g H S L R))
  where
    found : 1 ≤ first_failing g H S L R → FailsFirst g S L R t w s
    found h =
        let r = sym (verdict_no g H S L R (first_failing g H S L R) refl h) ∙ e in
        let t≡ : first_failing g H S L R ≡ t = ap (λ (v : Verdict). (reading_of v).length) r in
        let w≡ : g (first_failing g H S L R) ≡ w = ap (λ (v : Verdict). (reading_of v).demand) r in
        let s≡ : supply S L R (first_failing g H S L R) ≡ s = ap (λ (v : Verdict). (reading_of v).supply) r in
        let f : First (failing g S L R) t = fails_first g H S L R t (omega arith) t≡ in
        record {
          there = f.there;
          exceeds = omega (arith, has_failed g S L R t f.has, ap g t≡, ap (supply S L R) t≡);
          demanded = sym w≡ ∙ ap g t≡;
          supplied = sym s≡ ∙ ap (supply S L R) t≡;
          before = λ x a b. has_held g S L R x (f.before x a b);
        }

pub fails_no : (g : ℕ → ℕ) (H S L R : ℕ) → Lawful g H → 1 ≤ S → (t w s : ℕ)
    → FailsFirst g S L R t w s → verdict_of g H S L R ≡ No (record { length = t; demand = w; supply = s })
unfolding reading_at
fails_no g H S L R lawful slot t w s f =
    let first : First (failing g S L R) t =
    record { there = f.there; has = fails g S L R t (omega (arith, f.exceeds, f.demanded, f.supplied)); before = λ x a b. holds g S L R x (f.before x a b) } in
    rw (f.demanded, f.supplied) (verdict_no g H S L R t (first_fails g H S L R lawful slot t first) f.there)

-- ---- any verdict that tells

-- where the demand passes it is yes, with the closest length, the demand and the supply there
pub passes_told : (g : ℕ → ℕ) (S L R : ℕ) (v : Verdict) → VerdictTells g S L R v → Passes g S L R
    → (t : ℕ) × Closest g S L R t (g t) (supply S L R t) × (v ≡ Yes (record { length = t; demand = g t; supply = supply S L R t }))
passes_told g S L R (Yes r) tells passes =
    let c = ((tells.yes_means r.length r.demand r.supply).0 refl).1 in
    (r.length, rw (c.demanded, c.supplied) at c, rw (c.demanded, c.supplied))
passes_told g S L R (No r) tells passes =
    let f = (tells.no_means r.length r.demand r.supply).0 refl in
    absurd (omega (arith, passes r.length f.there, f.exceeds, f.demanded, f.supplied))

-- ---- the horizon

-- two horizons name the same closest length
same_closest : (g : ℕ → ℕ) (H K S L R : ℕ) → Lawful g H → Lawful g K → 1 ≤ S → Passes g S L R → closest g H S L R ≡ closest g K S L R
same_closest g H K S L R h k slot passes =
    ⊎_elim
    (λ v. v.0 ∙ sym (closest_none g K S L R v.1))
    (λ c. sym (closest_is g K S L R (closest g H S L R) (g (closest g H S L R)) (supply S L R (closest g H S L R)) k slot passes c))
    (closest_view g H S L R h slot passes)

-- so they give the same verdict
pub same_verdict : (g : ℕ → ℕ) (H K S L R : ℕ) → Lawful g H → Lawful g K → 1 ≤ S → verdict_of g H S L R ≡ verdict_of g K S L R
same_verdict g H K S L R h k slot =
    let same : first_failing g H S L R ≡ first_failing g K S L R = same_first g H K S L R h k slot in
    ⊎_elim
    (λ (z : first_failing g H S L R ≡ 0).
    verdict_yes g H S L R z ∙
    ap (λ (t : ℕ). Yes (reading_at g S L R t)) (same_closest g H K S L R h k slot (zero_passes g H S L R h slot z)) ∙
    sym (verdict_yes g K S L R (sym same ∙ z)))
    (λ (p : 1 ≤ first_failing g H S L R).
    verdict_no g H S L R (first_failing g H S L R) refl p ∙ sym (verdict_no g K S L R (first_failing g H S L R) (sym same) p))
    (eq-zero-or-pos (first_failing g H S L R))

-- what is looked at lies within it
closest_within : (g : ℕ → ℕ) (H S L R : ℕ) → closest g H S L R ≤ H
unfolding closest
closest_within g H S L R = least_within (steps g) (slack g S L R) H

-- so is one that is closest of all
pub told_within : (g : ℕ → ℕ) (H S L R t : ℕ) {w s : ℕ} → Lawful g H → 1 ≤ S → Passes g S L R → Closest g S L R t w s → t ≤ H
told_within g H S L R t {w} {s} lawful slot passes c =
    omega (arith, closest_is g H S L R t w s lawful slot passes c, closest_within g H S L R)

failing_within : (g : ℕ → ℕ) (H S L R : ℕ) → first_failing g H S L R ≤ H
unfolding first_failing
failing_within g H S L R = first_within (failing g S L R) H

pub verdict_within : (g : ℕ → ℕ) (H S L R : ℕ) → (reading_of (verdict_of g H S L R)).length ≤ H
unfolding reading_at
verdict_within g H S L R =
    ⊎_elim
    (λ z. rw (verdict_yes g H S L R z) (closest_within g H S L R))
    (λ p. rw (verdict_no g H S L R (first_failing g H S L R) refl p) (failing_within g H S L R))
    (eq-zero-or-pos (first_failing g H S L R))

-- ---- nothing asked

supply_zero : (S L R : ℕ) → 1 ≤ S → supply S L R 0 ≡ 0
supply_zero S L R slot = omega (arith, supply_gap S L R 0 slot, supply_within S (gap S L R) 0)

pub never_yes : (g : ℕ → ℕ) (H S L R : ℕ) → 1 ≤ S → ((x : ℕ) → g x ≡ 0) → verdict_of g H S L R ≡ Yes (record { length = 0; demand = 0; supply = 0 })
unfolding reading_at
never_yes g H S L R slot never =
    verdict_yes g H S L R (passes_zero g H S L R (λ t p. omega (arith, never t))) ∙
    ap (λ (t : ℕ). Yes (reading_at g S L R t)) (closest_none g H S L R never) ∙
    rw (never 0, supply_zero S L R slot)
