-- Laws of the gain that is loads' own: it begins at their smallest deadline, before which they ask nothing, and ends at their largest.
-- Assumes nothing.
use Prim.Native.Nat.{ℕ, ◌≤◌, ◌<◌}
use mathlib.Core.Path.{◌≡◌, refl, ap, sym, subst, ◌∙◌}
use mathlib.Core.Bool.{true}
use mathlib.Core.List.{List, [], ◌∷◌}
use mathlib.Core.Logic.{⊎_elim}
use native.Mathlib.Nat.{le_refl, le_trans}
use native.Mathlib.Omega.{arith}
use lib.ListN.{length}
use Rattle.demand.specs.Load.{Load, Sound, Every}
use Rattle.demand.specs.Demand.{demand}
use Rattle.demand.specs.Steps.{Some, Step}
use Rattle.demand.proofs.Demand.{demand_nil, demand_cons, term_none}
use Rattle.masking.specs.declared.Gain.{Gain}
use Rattle.masking.specs.Masking.{soonest_of, soonest, latest, gain_of, gains_some, Maskable, Gains}
use Rattle.masking.proofs.EndsLaws.{soonest_first, soonest_each, soonest_some, latest_found, latest_below, sound_due}
use Rattle.masking.proofs.GainLaws.{gains_somewhere}
use Rattle.masking.proofs.MaskedLaws.{step_at, soonest_step}

-- the loads' own gain is what a search asks, where B is small and the deadlines are within the bound
pub own_gains : {k : Gain} (B : ℕ) (ls : List Load) {H : ℕ} → k ≡ gain_of B ls → Maskable B ls H → Gains k ls H
unfolding gain_of
own_gains {k} B ls e m =
    let extra : k.extra ≡ B = ap (λ (k : Gain). k.extra) e in
    let until : k.until ≡ latest ls = ap (λ (k : Gain). k.until) e in
    record { own = e ∙ ap (λ (x : ℕ). gain_of x ls) (sym extra); small_extra = omega (arith, m.masked_small); due = omega (arith, m.due) }

-- before every deadline nothing is asked
none_due : (m : ℕ) (ls : List Load) (t : ℕ) → Every (λ (l : Load). m ≤ l.deadline) ls → t < m → demand ls t ≡ 0
none_due m [] t e h = demand_nil t
none_due m (l ∷ ls) t e h = omega (arith, demand_cons l ls t, term_none l {t = t} (le_trans h e.0), none_due m ls t e.1 h)

pub early_none : (ls : List Load) (t : ℕ) → t < soonest ls → demand ls t ≡ 0
unfolding soonest
early_none [] t h = demand_nil t
early_none (l ∷ ls) t h =
    let m = soonest_of l.deadline ls in
    none_due m (l ∷ ls) t (soonest_first l.deadline ls, soonest_each m l.deadline ls (le_refl m)) h

-- the largest deadline is a step too
pub latest_step : (l : Load) (ls : List Load) → Every Sound (l ∷ ls) → Step (l ∷ ls) (latest (l ∷ ls))
latest_step l ls e =
    let m = latest (l ∷ ls) in
    let found : Some (λ (l : Load). l.deadline ≡ m) (l ∷ ls) = latest_found m l ls refl in
    (due m (l ∷ ls) (sound_due (l ∷ ls) e) found, step_at m (l ∷ ls) found)
  where
    due : (m : ℕ) (ls : List Load) → Every (λ (l : Load). 1 ≤ l.deadline) ls → Some (λ (l : Load). l.deadline ≡ m) ls → 1 ≤ m
    due m [] e s = elim s [ ]
    due m (l ∷ ls) e s = ⊎_elim (λ (q : l.deadline ≡ m). omega (arith, e.0)) (λ r. due m ls e.1 r) s

module _ {k : Gain} {ls : List Load} {hi : ℕ} (own : Gains k ls hi) where
  pub own_from : k.from ≡ soonest ls
  unfolding gain_of
  own_from = ap (λ (k : Gain). k.from) own.own

  pub own_until : k.until ≡ latest ls
  unfolding gain_of
  own_until = ap (λ (k : Gain). k.until) own.own

  -- before it nothing is asked
  pub own_early : (t : ℕ) → t < k.from → demand ls t ≡ 0
  own_early t h = early_none ls t (omega (arith, own_from))

-- where there is a load, both ends are steps of the loads
module _ {k : Gain} {hi : ℕ} where
  pub own_begins : (ls : List Load) → Gains k ls hi → Every Sound ls → 1 ≤ length ls → Step ls k.from
  own_begins [] own e h = absurd (omega arith)
  own_begins (l ∷ ls) own e h = subst (Step (l ∷ ls)) (sym (own_from own)) (soonest_step l ls e)

  pub own_ends : (ls : List Load) → Gains k ls hi → Every Sound ls → 1 ≤ length ls → Step ls k.until
  own_ends [] own e h = absurd (omega arith)
  own_ends (l ∷ ls) own e h = subst (Step (l ∷ ls)) (sym (own_until own)) (latest_step l ls e)

  -- and where some length gains there is one
  pub own_some : (ls : List Load) → Gains k ls hi → Every Sound ls → gains_some k ≡ true → 1 ≤ k.from
  own_some [] own e s = absurd (omega (arith, (gains_somewhere k s).1, own_from own, own_until own, latest_below 0 [] tt))
  own_some (l ∷ ls) own e s = omega (arith, own_from own, soonest_some l ls e)
