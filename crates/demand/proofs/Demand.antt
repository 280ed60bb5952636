-- Laws of demand: it grows with the length, turns with every common multiple of the periods, and stays between steps.
-- Assumes nothing.
use Prim.Native.Nat.{ℕ, zero, suc, ◌+◌, ◌*◌, ◌-◌, ◌/◌, ◌^◌, ◌≤◌, ◌<◌, ◌∣◌}
use mathlib.Core.Path.{◌≡◌, refl, ap, ap₂, subst, sym, ◌∙◌}
use mathlib.Core.List.{List, [], ◌∷◌, ◌++◌}
use mathlib.Core.Logic.{inl, inr, ⊎_elim}
use native.Mathlib.Nat.{zero-add, add-le-add, mul-zero, mul-le-mul, mul-le-mul_left, mul-le-mul_right, le_refl, le_trans, div-mul-le_self, div-eq_of_lt, add-div_right, add-mul-div_left, mul-div_cancel', le-div_iff_mul-le, le_antisymm, le-suc_iff}
use native.Mathlib.Numerals.{add-one}
use native.Mathlib.Omega.{arith}
use lib.Arith.{le-zero}
use lib.ListN.{length, length-append}
use Rattle.laws.proofs.Orders.{le_or_lt}
use Rattle.laws.proofs.Choices.{cond_leb, cond_leb_not}
use Rattle.demand.specs.Load.{Load, Sound, Meets, Small, Every, Loaded, each, load_at, loads_of}
use Rattle.demand.specs.Demand.{jobs, demand}
use Rattle.demand.specs.Steps.{Step}

-- ---- the jobs of one load

pub jobs_due : {d t : ℕ} (T : ℕ) → d ≤ t → jobs d T t ≡ (t - d) / T + 1
unfolding jobs
jobs_due {d} {t} T h = cond_leb ((t - d) / T + 1) 0 h

pub jobs_none : {d t : ℕ} (T : ℕ) → t < d → jobs d T t ≡ 0
unfolding jobs
jobs_none {d} {t} T h = cond_leb_not ((t - d) / T + 1) 0 h

-- what one division computes
pub jobs_code : (d T t : ℕ) → 1 ≤ T → d ≤ T → jobs d T t ≡ (t + T - d) / T
jobs_code d T t h g =
    ⊎_elim
    (λ (p : d ≤ t).
    let e : t - d + T ≡ t + T - d = omega arith in
    jobs_due T p ∙ sym (add-div_right (t - d) h) ∙ ap (λ (n : ℕ). n / T) e)
    (λ (p : t < d). jobs_none T p ∙ sym (div-eq_of_lt (omega arith)))
    (le_or_lt d t)

-- a larger number has no smaller quotient
pub div_mono : (T : ℕ) {a b : ℕ} → 1 ≤ T → a ≤ b → a / T ≤ b / T
div_mono T {a} h g = (le-div_iff_mul-le h).1 (le_trans (div-mul-le_self a T) g)

-- in a longer window there are no fewer jobs
pub jobs_mono : (d T : ℕ) {t u : ℕ} → 1 ≤ T → d ≤ T → t ≤ u → jobs d T t ≤ jobs d T u
jobs_mono d T {t} {u} h g p =
    let le : t + T - d ≤ u + T - d = omega arith in
    rw (jobs_code d T t h g, jobs_code d T u h g) (div_mono T h le)

-- in a common multiple of its period a load has a job for each period
pub jobs_full : (d T H : ℕ) → 1 ≤ d → d ≤ T → T ∣ H → jobs d T H ≡ H / T
jobs_full d T H h g v =
    let m : T * (H / T) ≡ H = mul-div_cancel' T v in
    let e : H + T - d ≡ T - d + T * (H / T) = omega arith in
    jobs_code d T H (omega arith) g ∙ ap (λ (n : ℕ). n / T) e ∙ add-mul-div_left (T - d) (H / T) (omega arith) ∙
    ap (λ (n : ℕ). n + H / T) (div-eq_of_lt (omega arith)) ∙ zero-add (H / T)

-- and H ticks more bring as many jobs as H ticks have
pub jobs_turn : (d T t H : ℕ) → 1 ≤ d → d ≤ T → T ∣ H → jobs d T (t + H) ≡ jobs d T t + jobs d T H
jobs_turn d T t H h g v =
    let m : T * (H / T) ≡ H = mul-div_cancel' T v in
    let e : t + H + T - d ≡ t + T - d + T * (H / T) = omega arith in
    jobs_code d T (t + H) (omega arith) g ∙ ap (λ (n : ℕ). n / T) e ∙ add-mul-div_left (t + T - d) (H / T) (omega arith) ∙
    ap₂ ◌+◌ (sym (jobs_code d T t (omega arith) g)) (sym (jobs_full d T H h g v))

-- ---- one load

within_sums : (c d T q t : ℕ) → c ≤ d → d ≤ T → d ≤ t → q * T ≤ t - d → c * (q + 1) ≤ t
within_sums c d T q t hc hd ht hq =
    let m : c * q ≤ T * q = mul-le-mul {m₁ = q} (le_trans hc hd) (le_refl q) in
    omega arith

-- a sound load whose cost is no more than its deadline never asks more than the length
pub term_within : (l : Load) (t : ℕ) → Sound l → Meets l → l.cost * jobs l.deadline l.period t ≤ t
term_within l t s m =
    ⊎_elim
    (λ (p : l.deadline ≤ t).
    rw (jobs_due l.period p)
    (within_sums l.cost l.deadline l.period ((t - l.deadline) / l.period) t m s.constrained p (div-mul-le_self (t - l.deadline) l.period)))
    (λ (p : t < l.deadline). rw (jobs_none l.period p) (omega (arith, mul-zero l.cost)))
    (le_or_lt l.deadline t)

-- before its deadline a load asks nothing
pub term_none : (l : Load) {t : ℕ} → t < l.deadline → l.cost * jobs l.deadline l.period t ≡ 0
term_none l h = rw (jobs_none l.period h) (mul-zero l.cost)

-- c (q + 1) ≤ (T + k) (q + 1) ≤ t + T + k (t + 1)
room_sums : (k c d T q t : ℕ) → 1 ≤ T → c ≤ T + k → q * T ≤ t - d → c * (q + 1) ≤ t + T + k * (t + 1)
room_sums k c d T q t hT hc hq =
    let all : c * (q + 1) ≤ (T + k) * (q + 1) = mul-le-mul_right (q + 1) hc in
    let times : q * 1 ≤ q * T = mul-le-mul_left q hT in
    let more : k * q ≤ k * t = mul-le-mul_left k (omega arith) in
    omega arith

-- what a small load asks at most, at a length below 2 ^ 36
abbrev pub most_term : ℕ
most_term = 2 ^ 54 + 2 ^ 37

pub term_room : (l : Load) (t : ℕ) → Sound l → Small l → t < 2 ^ 36 → l.cost * jobs l.deadline l.period t ≤ most_term
term_room l t s m h =
    ⊎_elim
    (λ (p : l.deadline ≤ t).
    rw (jobs_due l.period p)
    (le_trans
    (room_sums (2 ^ 18) l.cost l.deadline l.period ((t - l.deadline) / l.period) t (omega arith) m.cost_small (div-mul-le_self (t - l.deadline) l.period))
    (omega arith)))
    (λ (p : t < l.deadline). omega (arith, term_none l p))
    (le_or_lt l.deadline t)

-- ---- lists of loads

pub every_snoc : {A : Type 0} (P : A → Type 0) (ls : List A) (l : A) → Every P ls → P l → Every P (ls ++ (l ∷ []))
every_snoc P [] l e p = (p, tt)
every_snoc P (x ∷ ls) l e p = (e.0, every_snoc P ls l e.1 p)

pub every_append : (P : Load → Type 0) (ls ks : List Load) → Every P ls → Every P ks → Every P (ls ++ ks)
every_append P [] ks e f = f
every_append P (x ∷ ls) ks e f = (e.0, every_append P ls ks e.1 f)

pub every_front : {A : Type 0} (P : A → Type 0) (ls : List A) (l : A) → Every P (ls ++ (l ∷ [])) → Every P ls
every_front P [] l e = tt
every_front P (x ∷ ls) l e = (e.0, every_front P ls l e.1)

pub every_last : {A : Type 0} (P : A → Type 0) (ls : List A) (l : A) → Every P (ls ++ (l ∷ [])) → P l
every_last P [] l e = e.0
every_last P (x ∷ ls) l e = every_last P ls l e.1

pub demand_nil : (t : ℕ) → demand [] t ≡ 0
unfolding demand
demand_nil t = refl

pub demand_cons : (l : Load) (ls : List Load) (t : ℕ) → demand (l ∷ ls) t ≡ l.cost * jobs l.deadline l.period t + demand ls t
unfolding demand
demand_cons l ls t = refl

-- one load more adds its term
pub demand_snoc : (ls : List Load) (l : Load) (t : ℕ) → demand (ls ++ (l ∷ [])) t ≡ demand ls t + l.cost * jobs l.deadline l.period t
unfolding demand
demand_snoc [] l t = omega arith
demand_snoc (x ∷ ls) l t = omega (arith, demand_snoc ls l t)

-- demand never falls as the length grows
pub demand_mono : (ls : List Load) {t u : ℕ} → Every Sound ls → t ≤ u → demand ls t ≤ demand ls u
unfolding demand
demand_mono [] e h = le_refl 0
demand_mono (l ∷ ls) e h =
    let s = e.0 in
    add-le-add (mul-le-mul_left l.cost (jobs_mono l.deadline l.period (omega arith) s.constrained h)) (demand_mono ls e.1 h)

-- at length 0 nothing is asked
pub demand_zero : (ls : List Load) → Every Sound ls → demand ls 0 ≡ 0
unfolding demand
demand_zero [] e = refl
demand_zero (l ∷ ls) e = omega (arith, term_none l {t = 0} e.0.due, demand_zero ls e.1)

-- so many small loads ask at most so much
pub demand_small : (ls : List Load) (t : ℕ) → Every Sound ls → Every Small ls → t < 2 ^ 36 → demand ls t ≤ length ls * most_term
unfolding demand
demand_small [] t e m h = omega arith
demand_small (l ∷ ls) t e m h = omega (arith, term_room l t e.0 m.0 h, demand_small ls t e.1 m.1 h)

turn_sums : (c j k a b : ℕ) {x y : ℕ} → x ≡ j + k → y ≡ a + b → c * x + y ≡ c * j + a + (c * k + b)
turn_sums c j k a b e g = rw (e, g) (omega arith)

-- demand turns with each common multiple of the periods
pub demand_turn : (ls : List Load) (t H : ℕ) → Every Sound ls → Every (λ (l : Load). l.period ∣ H) ls → demand ls (t + H) ≡ demand ls t + demand ls H
unfolding demand
demand_turn [] t H e v = refl
demand_turn (l ∷ ls) t H e v =
    let s = e.0 in
    turn_sums l.cost (jobs l.deadline l.period t) (jobs l.deadline l.period H) (demand ls t) (demand ls H)
    (jobs_turn l.deadline l.period t H (omega arith) s.constrained v.0)
    (demand_turn ls t H e.1 v.1)

-- ---- between steps

-- if no deadline of the load falls past t and up to u, no job is added
pub jobs_stays : (d T : ℕ) {t u : ℕ} → 1 ≤ T → d ≤ T → t ≤ u → ((j : ℕ) → t < d + j * T → d + j * T ≤ u → ⊥) → jobs d T t ≡ jobs d T u
jobs_stays d T {t} {u} h g le none =
    ⊎_elim
    (λ (p : d ≤ u).
    let low : (u - d) / T * T ≤ u - d = div-mul-le_self (u - d) T in
    ⊎_elim
    (λ (q : d + (u - d) / T * T ≤ t).
    let due : (u - d) / T ≤ (t - d) / T = (le-div_iff_mul-le h).1 (omega arith) in
    let same : jobs d T u ≤ jobs d T t = omega (arith, jobs_due {d = d} {t = u} T p, jobs_due {d = d} {t = t} T (omega arith)) in
    le_antisymm (jobs_mono d T h g le) same)
    (λ (q : t < d + (u - d) / T * T). absurd (none ((u - d) / T) q (omega arith)))
    (le_or_lt (d + (u - d) / T * T) t))
    (λ (p : u < d). jobs_none T (omega arith) ∙ sym (jobs_none T p))
    (le_or_lt d u)

-- if no length past t and up to u is a step, demand stays
pub demand_stays : (ls : List Load) {t u : ℕ} → Every Sound ls → t ≤ u → ((x : ℕ) → t < x → x ≤ u → Step ls x → ⊥) → demand ls t ≡ demand ls u
unfolding demand
demand_stays [] e h none = refl
demand_stays (l ∷ ls) e h none =
    let s = e.0 in
    ap₂ (λ (j w : ℕ). l.cost * j + w)
    (jobs_stays l.deadline l.period (omega arith) s.constrained h (λ j p q. none (l.deadline + j * l.period) p q (omega arith, inl (j, refl))))
    (demand_stays ls e.1 h (λ x p q st. none x p q (st.0, inr st.1)))

-- the first load's deadline asks something
pub demand_first : (l : Load) (ls : List Load) → Sound l → 1 ≤ demand (l ∷ ls) l.deadline
unfolding demand
demand_first l ls s =
    let q = (l.deadline - l.deadline) / l.period in
    let e : jobs l.deadline l.period l.deadline ≡ q + 1 = jobs_due l.period (le_refl l.deadline) in
    rw e (omega arith)

-- ---- what a function gives for the first numbers

module _ {A : Type 0} (f : ℕ → A) where
  pub each_next : (i : ℕ) → each f (i + 1) ≡ each f i ++ (f i ∷ [])
  unfolding each
  each_next i = rw (add-one i)

  pub each_length : (n : ℕ) → length (each f n) ≡ n
  unfolding each
  each_length zero = refl
  each_length (suc n) = length-append (each f n) (f n ∷ []) ∙ omega (arith, each_length n)

  -- what holds of the first n holds of the first i, and of each
  pub every_first : (P : A → Type 0) (n : ℕ) {i : ℕ} → i ≤ n → Every P (each f n) → Every P (each f i)
  unfolding each
  every_first P zero h e = subst (λ (k : ℕ). Every P (each f k)) (sym (le-zero h)) e
  every_first P (suc n) h e =
      ⊎_elim
      (λ p. every_first P n p (every_front P (each f n) (f n) e))
      (λ q. subst (λ (k : ℕ). Every P (each f k)) (sym q) e)
      (le-suc_iff.0 h)

  pub every_at : (P : A → Type 0) (n : ℕ) {i : ℕ} → i < n → Every P (each f n) → P (f i)
  every_at P n {i} h e =
      every_last P (each f i) (f i) (rw (each_next i) at (every_first P n {i = i + 1} (omega arith) e))

-- ---- the loads that stand in a slice

module _ (numbers : List ℕ) where
  -- the demand of one load more
  pub demand_next : (i t : ℕ) →
      demand (loads_of numbers (i + 1)) t ≡ demand (loads_of numbers i) t + (load_at numbers i).cost * jobs (load_at numbers i).deadline (load_at numbers i).period t
  demand_next i t =
      rw (each_next (load_at numbers) i) (demand_snoc (loads_of numbers i) (load_at numbers i) t)

  -- the demand of the first i of few loads leaves room in 64 bits
  pub demand_room : (n i t : ℕ) → Loaded numbers n → i ≤ n → t < 2 ^ 36 → demand (loads_of numbers i) t < 2 ^ 63
  demand_room n i t h g p =
      let all : demand (loads_of numbers i) t ≤ i * most_term =
      le_trans (demand_small (loads_of numbers i) t (every_first (load_at numbers) Sound n g h.sound) (every_first (load_at numbers) Small n g h.small) p)
      (rw (each_length (load_at numbers) i) (le_refl (i * most_term))) in
      omega (arith, h.few)
