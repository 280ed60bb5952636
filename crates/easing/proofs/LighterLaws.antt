-- Loads of which some have gone and some are lighter: their demand is no larger at any length, also where interrupts can be held off.
-- Assumes nothing.
use Prim.Native.Nat.{ℕ, ◌*◌, ◌-◌, ◌/◌, ◌≤◌, ◌<◌}
use native.Mathlib.Nat.{le_refl, le_trans, eq-zero-or-pos, mul-le-mul, mul-le-mul_left, div-mul-le_self, le-div_iff_mul-le, add-le-add}
use native.Mathlib.Omega.{arith}
use mathlib.Core.Path.{◌≡◌}
use mathlib.Core.List.{List, [], ◌∷◌}
use mathlib.Core.Logic.{◌⊎◌, ⊎_elim}
use lib.ListN.{length}
use Rattle.laws.proofs.Orders.{le_or_lt}
use Rattle.demand.specs.Load.{Load, Every}
use Rattle.demand.specs.Demand.{jobs, demand}
use Rattle.demand.proofs.Demand.{jobs_due, jobs_none, div_mono}
use Rattle.masking.specs.Masking.{soonest, latest, masked_demand}
use Rattle.masking.proofs.EndsLaws.{soonest_above, latest_each, latest_below}
use Rattle.masking.proofs.Claims.{ends}
use Rattle.masking.proofs.MaskedLaws.{masked_in, masked_before, masked_past, masked_above}
use Rattle.easing.specs.Eased.{Left, none, gone, kept}
use Rattle.easing.proofs.LeftLaws.{left_every}

-- c has not risen and T has not fallen; d is the same or, where B is 0, has not fallen
pub record Lighter (B : ℕ) (l k : Load) : Type 0 where
  pub cost : k.cost ≤ l.cost
  pub period : l.period ≤ k.period
  pub due : (k.deadline ≡ l.deadline) ⊎ ((B ≡ 0) × (l.deadline ≤ k.deadline))

not_sooner : {B : ℕ} (l k : Load) → Lighter B l k → l.deadline ≤ k.deadline
not_sooner l k e = ⊎_elim (λ (same : k.deadline ≡ l.deadline). omega arith) (λ later. later.1) e.due

-- ---- one load

-- a larger divisor has no larger quotient
div_falls : (n : ℕ) {T T' : ℕ} → 1 ≤ T → T ≤ T' → n / T' ≤ n / T
div_falls n {T} {T'} some le =
    (le-div_iff_mul-le some).1 (le_trans (mul-le-mul_left (n / T') le) (div-mul-le_self n T'))

-- with a later deadline and a longer period there are no more jobs
jobs_fall : (t : ℕ) {d d' T T' : ℕ} → 1 ≤ T → d ≤ d' → T ≤ T' → jobs d' T' t ≤ jobs d T t
jobs_fall t {d} {d'} {T} {T'} some later longer =
    ⊎_elim
    (λ (p : d' ≤ t).
    let less : t - d' ≤ t - d = omega arith in
    omega (
      arith,
      jobs_due {d = d'} {t = t} T' p,
      jobs_due {d = d} {t = t} T (omega arith),
      div_mono T' {a = t - d'} {b = t - d} (omega arith) less,
      div_falls (t - d) some longer,
    ))
    (λ (p : t < d'). omega (arith, jobs_none {d = d'} {t = t} T' p))
    (le_or_lt d' t)

term_falls : {B : ℕ} (l k : Load) (t : ℕ) → Lighter B l k → 1 ≤ l.period → k.cost * jobs k.deadline k.period t ≤ l.cost * jobs l.deadline l.period t
term_falls l k t e some = mul-le-mul e.cost (jobs_fall t some (not_sooner l k e) e.period)

-- ---- loads

demand_falls : {B : ℕ} {ls ks : List Load} → Left (Lighter B) ls ks → Every (λ (l : Load). 1 ≤ l.period) ls → (t : ℕ) → demand ks t ≤ demand ls t
unfolding demand
demand_falls none some t = le_refl 0
demand_falls (gone l) some t = omega (arith, demand_falls l some.1 t)
demand_falls (kept {x} {y} e l) some t = add-le-add (term_falls x y t e some.0) (demand_falls l some.1 t)

-- the smallest deadline of those that are left is no smaller
pub soonest_rises : {B : ℕ} (ls ks : List Load) → Left (Lighter B) ls ks → 1 ≤ length ks → soonest ls ≤ soonest ks
unfolding soonest
soonest_rises ls [] l some = absurd (omega arith)
soonest_rises [] (k ∷ ks) l some = omega arith
soonest_rises (x ∷ ls) (k ∷ ks) l some =
    let least = left_every (λ (a : Load). soonest (x ∷ ls) ≤ a.deadline) (λ (a : Load). soonest (x ∷ ls) ≤ a.deadline)
    (λ a b e h. le_trans h (not_sooner a b e)) l (ends x ls).soonest_least in
    soonest_above (soonest (x ∷ ls)) k.deadline ks least.0 least.1

-- and where B is not 0 the largest is no larger
pub latest_falls : {B : ℕ} {ls ks : List Load} → Left (Lighter B) ls ks → 1 ≤ B → latest ks ≤ latest ls
latest_falls {B} {ls} {ks} l some =
    latest_below (latest ls) ks
    (left_every (λ (a : Load). a.deadline ≤ latest ls) (λ (a : Load). a.deadline ≤ latest ls) not_later l (latest_each (latest ls) ls (le_refl (latest ls))))
  where
    not_later : (a b : Load) → Lighter B a b → a.deadline ≤ latest ls → b.deadline ≤ latest ls
    not_later a b e h = ⊎_elim (λ (same : b.deadline ≡ a.deadline). omega arith) (λ none. absurd (omega (arith, none.0))) e.due

latest_some : (t : ℕ) (ls : List Load) → t < latest ls → 1 ≤ length ls
unfolding latest
latest_some t [] h = absurd (omega arith)
latest_some t (l ∷ ls) h = omega arith

-- so a length that gains gained no less before
pub masked_falls : (B : ℕ) {B' : ℕ} {ls ks : List Load} → B' ≤ B → Left (Lighter B') ls ks → Every (λ (l : Load). 1 ≤ l.period) ls → (t : ℕ) →
    masked_demand B' ks t ≤ masked_demand B ls t
masked_falls B {B'} {ls} {ks} less l some t =
    let falls = le_trans (demand_falls l some t) (masked_above B ls t) in
    ⊎_elim
    (λ (p : soonest ks ≤ t).
    ⊎_elim
    (λ (q : latest ks ≤ t). omega (arith, masked_past B' ks t q, falls))
    (λ (q : t < latest ks).
    ⊎_elim
    (λ (z : B' ≡ 0). omega (arith, masked_in B' ks t p q, falls))
    (λ (h : 1 ≤ B').
    let inside = masked_in B ls t (le_trans (soonest_rises ls ks l (latest_some t ks q)) p) (omega (arith, latest_falls l h)) in
    omega (arith, masked_in B' ks t p q, inside, demand_falls l some t, less))
    (eq-zero-or-pos B'))
    (le_or_lt (latest ks) t))
    (λ (p : t < soonest ks). omega (arith, masked_before B' ks t p, falls))
    (le_or_lt (soonest ks) t)
