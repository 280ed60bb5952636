-- Each claim of specs/Claims.antt, proved.
-- Assumes nothing.
use Prim.Native.Nat.{ℕ, ◌+◌, ◌≤◌, ◌<◌}
use mathlib.Core.Path.{◌≡◌, refl, sym, subst}
use mathlib.Core.List.{◌∷◌}
use mathlib.Core.Logic.{⊎_elim}
use native.Mathlib.Nat.{le_refl, le_trans, le_of_eq, dvd_refl}
use native.Mathlib.Omega.{arith}
use Rattle.laws.proofs.Orders.{le_or_lt, eq_or_ne}
use Rattle.demand.specs.Load.{Sound, Every}
use Rattle.demand.specs.Demand.{jobs, demand}
use Rattle.demand.specs.Supply.{supply_past, supply}
use Rattle.demand.specs.Passes.{Passes, fake, FakePasses}
use Rattle.demand.proofs.Demand.{demand_mono}
use Rattle.demand.proofs.Steps.{supply_grows}
use Rattle.demand.proofs.Claims as plain
use Rattle.masking.specs.Masking.{soonest_of, soonest, latest, gain_at, gaining, gain_of, masked_demand}
use Rattle.masking.specs.Claims.{Ends, GainsB, MaskedLawful, NothingGained, AlonePasses, FakeAgrees, loads_masked, FakeDiffers}
use Rattle.masking.proofs.EndsLaws.{soonest_first, soonest_each, soonest_found, latest_each, latest_found}
use Rattle.masking.proofs.MaskedLaws as masked

pub ends : Ends
unfolding soonest
ends l ls =
    let m = soonest_of l.deadline ls in
    record {
      soonest_one = soonest_found m l.deadline ls refl;
      soonest_least = (soonest_first l.deadline ls, soonest_each m l.deadline ls (le_refl m));
      latest_one = latest_found (latest (l ∷ ls)) l ls refl;
      latest_most = latest_each (latest (l ∷ ls)) (l ∷ ls) (le_refl (latest (l ∷ ls)));
    }

pub gains_b : GainsB
gains_b = record { inside = masked.masked_in; outside = masked.masked_outside }

pub masked_lawful : MaskedLawful
masked_lawful = record { lawful = masked.masked_lawful; steps = masked.masked_steps; above = masked.masked_above }

pub nothing_gained : NothingGained
nothing_gained =
    record {
      unmasked = masked.masked_none;
      equal = λ B d ls t e. masked.masked_equal B ls t d e;
      one = masked.masked_one;
    }

pub alone_passes : AlonePasses
alone_passes B l S L s m t p = le_trans (le_of_eq (masked.masked_one B l t)) (plain.alone_passes l S L s m t p)

pub fake_agrees : FakeAgrees
fake_agrees ls S L R e r =
    plain.fake_agrees (masked_demand 0 ls) S L R
    (λ t u h. omega (arith, masked.masked_none ls t, masked.masked_none ls u, demand_mono ls {t = t} {u = u} e h))
    r

-- ---- where the fake-task form differs

sound_masked : Every Sound loads_masked
sound_masked = (
  record { some = omega arith; due = omega arith; constrained = omega arith },
  (record { some = omega arith; due = omega arith; constrained = omega arith }, tt),
)

-- without B the two loads pass: nothing is due before 13, and from there to 20 the demand is at most 2 and the supply at least 4
asked_12 : demand loads_masked 12 ≡ 0
unfolding demand jobs
asked_12 = refl

asked_20 : demand loads_masked 20 ≡ 2
unfolding demand jobs
asked_20 = refl

supplied_13 : supply 10 0 4 13 ≡ 4
unfolding supply supply_past
supplied_13 = refl

within : (t : ℕ) → 1 ≤ t → t ≤ 20 → demand loads_masked t ≤ supply 10 0 4 t
within t p h =
    ⊎_elim
    (λ (q : 13 ≤ t).
    omega (arith, asked_20, supplied_13, demand_mono loads_masked {t = t} {u = 20} sound_masked h, supply_grows 10 0 4 {t = 13} {u = t} (omega arith) q))
    (λ (q : t < 13). omega (arith, asked_12, demand_mono loads_masked {t = t} {u = 12} sound_masked (omega arith)))
    (le_or_lt 13 t)

passes_unmasked : Passes (demand loads_masked) 10 0 4
passes_unmasked =
    plain.demand_decides (demand loads_masked) 10 0 4 20 (omega arith)
    ((plain.loads_lawful).lawful loads_masked 20 sound_masked (omega arith) (dvd_refl 20, (dvd_refl 20, tt)))
    within

fits_unmasked : FakePasses (demand loads_masked) 10 0 4
fits_unmasked =
    (plain.fake_agrees (demand loads_masked) 10 0 4 ((plain.loads_lawful).rising loads_masked sound_masked)
    (record { enters = omega arith; parts = omega arith })).0 passes_unmasked

-- with B the demand at 13 is 6, and the fake task's 6 with it fits into 13
asked_13 : masked_demand 5 loads_masked 13 ≡ 6
unfolding masked_demand gaining gain_at gain_of soonest soonest_of latest demand jobs
asked_13 = refl

sum_13 : masked_demand 5 loads_masked 13 + fake 10 6 13 ≡ 12
unfolding masked_demand gaining gain_at gain_of soonest soonest_of latest demand fake jobs
sum_13 = refl

ends_masked : (soonest loads_masked ≡ 13) × (latest loads_masked ≡ 14)
unfolding soonest soonest_of latest
ends_masked = (refl, refl)

-- at every other length nothing is gained
gained_only : (t : ℕ) → (t ≡ 13 → ⊥) → masked_demand 5 loads_masked t ≡ demand loads_masked t
gained_only t n =
    ⊎_elim
    (λ (p : 14 ≤ t). masked.masked_past 5 loads_masked t (omega (arith, ends_masked.1)))
    (λ (p : t < 14). masked.masked_before 5 loads_masked t (omega (arith, ends_masked.0, below t n p)))
    (le_or_lt 14 t)
  where
    below : (t : ℕ) → (t ≡ 13 → ⊥) → t < 14 → t < 13
    below t n p = ⊎_elim (λ (q : 13 ≤ t). absurd (n (omega arith))) (λ (q : t < 13). q) (le_or_lt 13 t)

pub fake_differs : FakeDiffers
fake_differs =
    record {
      fails = λ (h : Passes (masked_demand 5 loads_masked) 10 0 4). omega (arith, h 13 (omega arith), asked_13, supplied_13);
      fake = λ t p.
          ⊎_elim
          (λ (e : t ≡ 13). subst (λ (t : ℕ). masked_demand 5 loads_masked t + fake 10 6 t ≤ t) (sym e) (omega (arith, sum_13)))
          (λ (n : t ≡ 13 → ⊥). rw (gained_only t n) (fits_unmasked t p))
          (eq_or_ne t 13);
    }
