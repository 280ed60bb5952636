-- `least_multiple` and `least_multiple_of` are the least common multiple, and nothing else is; a list in two parts.
-- Assumes nothing.
use Prim.Native.Nat.{ℕ, zero, suc, ◌*◌, ◌/◌, ◌≤◌, ◌<◌, ◌∣◌, zero-le, suc-le-suc}
use mathlib.Core.Path.{◌≡◌, refl, sym, ap, subst, ◌∙◌}
use mathlib.Core.Logic.{◌⊎◌, inl, inr}
use mathlib.Core.List.{List, [], ◌∷◌, ◌++◌}
use native.Mathlib.Nat.{
  le_of_suc-le-suc,
  not-suc-le-zero,
  mul_assoc,
  mul_comm,
  mul-zero,
  mul_right_comm,
  mul-pos,
  eq-zero-or-pos,
  div-mul_cancel,
  mul-div_cancel',
  dvd_refl,
  dvd-zero,
  dvd_trans,
  dvd-mul_left,
  dvd-mul_right,
  mul-dvd-mul_right,
  dvd_of_mul-dvd-mul_right,
  eq-zero_of_zero-dvd,
  dvd_antisymm,
  pos_of_dvd_of_pos,
}
use lib.ListN.{length, get_or}
use Rattle.wholes.specs.Measure.{CommonMeasure, common_measure}
use Rattle.wholes.specs.Multiple.{LeastMultiple, least_multiple, Divide, LeastMultipleOf, least_multiple_of, AllPositive}
use Rattle.wholes.proofs.MeasureLaws.{common_measure_lem, scaled_measure}

module _ (a b : ℕ) where
  abbrev g : ℕ
  g = common_measure a b

  parts : CommonMeasure a b g
  parts = common_measure_lem a b

  first_divides : a ∣ least_multiple a b
  unfolding least_multiple
  first_divides =
      subst (λ (n : ℕ). a ∣ n)
      (ap (λ (n : ℕ). n * (b / g)) (sym (div-mul_cancel g parts.of_first)) ∙ mul_assoc (a / g) g (b / g)
      ∙ ap (λ (n : ℕ). a / g * n) (mul-div_cancel' g parts.of_second))
      (dvd-mul_right a (b / g))

  -- the multiple times the measure is the product
  times_measure : least_multiple a b * g ≡ a * b
  unfolding least_multiple
  times_measure = mul_right_comm (a / g) b g ∙ ap (λ (n : ℕ). n * b) (div-mul_cancel g parts.of_first)

  product_divides : (n : ℕ) → a ∣ n → b ∣ n → least_multiple a b * g ∣ n * g
  product_divides n p q =
      subst (λ (k : ℕ). k ∣ n * g) (sym times_measure)
      (scaled_measure a b n (a * b) (subst (λ (k : ℕ). k ∣ n * a) (mul_comm b a) (mul-dvd-mul_right b q a))
      (mul-dvd-mul_right a p b))

  divides_each : (n : ℕ) → a ∣ n → b ∣ n → (g ≡ 0) ⊎ (0 < g) → least_multiple a b ∣ n
  divides_each n p q (inl e) =
      subst (λ (k : ℕ). least_multiple a b ∣ k) (sym (eq-zero_of_zero-dvd (subst (λ (k : ℕ). k ∣ n) none q)))
      (dvd-zero (least_multiple a b))
    where
      none : b ≡ 0
      none = eq-zero_of_zero-dvd (subst (λ (k : ℕ). k ∣ b) e parts.of_second)
  divides_each n p q (inr h) = dvd_of_mul-dvd-mul_right (least_multiple a b) h (product_divides n p q)

  second_divides : b ∣ least_multiple a b
  unfolding least_multiple
  second_divides = dvd-mul_left b (a / g)

  -- `least_multiple` is the least common multiple
  pub least_multiple_lem : LeastMultiple a b (least_multiple a b)
  least_multiple_lem = record {
    of_first = first_divides;
    of_second = second_divides;
    least = λ n p q. divides_each n p q (eq-zero-or-pos g);
  }

  -- of positive numbers it is positive
  pub multiple_pos : 1 ≤ a → 1 ≤ b → 1 ≤ least_multiple a b
  multiple_pos p q =
      pos_of_dvd_of_pos (least_multiple_lem.least (a * b) (dvd-mul_right a b) (dvd-mul_left b a)) (mul-pos p q)

-- with 0 it is 0
pub multiple_zero : (a b : ℕ) → b ≡ 0 → 0 ≡ least_multiple a b
unfolding least_multiple
multiple_zero a b e = sym (ap (λ (n : ℕ). a / common_measure a b * n) e ∙ mul-zero (a / common_measure a b))

-- the quotient by the measure, times the second number
pub multiple_by : (a b : ℕ) {g : ℕ} → g ≡ common_measure a b → a / g * b ≡ least_multiple a b
unfolding least_multiple
multiple_by a b e = ap (λ (n : ℕ). a / n * b) e

-- two numbers have one least common multiple
pub least_unique : {a b m n : ℕ} → LeastMultiple a b m → LeastMultiple a b n → m ≡ n
least_unique {a} {b} {m} {n} x y =
    dvd_antisymm (x.least n y.of_first y.of_second) (y.least m x.of_first x.of_second)

-- one number more at the head of the list
least_cons : {a b k : ℕ} {bs : List ℕ} {m : ℕ} → LeastMultiple a b k → LeastMultipleOf k bs m → LeastMultipleOf a (b ∷ bs) m
least_cons {a} {b} {k} {bs} {m} two rest = record {
  of_first = dvd_trans a two.of_first rest.of_first;
  of_others = others;
  least = λ n p q. rest.least n (two.least n p (q zero (suc-le-suc zero-le))) (λ i h. q (suc i) (suc-le-suc h));
}
  where
    others : Divide (b ∷ bs) m
    others zero h = dvd_trans b two.of_second rest.of_first
    others (suc i) h = rest.of_others i (le_of_suc-le-suc h)

-- `least_multiple_of` is the least common multiple of its first number and the list
pub least_multiple_of_lem : (a : ℕ) (bs : List ℕ) → LeastMultipleOf a bs (least_multiple_of a bs)
unfolding least_multiple_of
least_multiple_of_lem a [] = record {
  of_first = dvd_refl a;
  of_others = λ i h. absurd (not-suc-le-zero h);
  least = λ n p q. p;
}
least_multiple_of_lem a (b ∷ bs) = least_cons (least_multiple_lem a b) (least_multiple_of_lem (least_multiple a b) bs)

-- a first number and a list have one least common multiple
pub least_of_unique : {a : ℕ} {bs : List ℕ} {m n : ℕ} → LeastMultipleOf a bs m → LeastMultipleOf a bs n → m ≡ n
least_of_unique {a} {bs} {m} {n} x y =
    dvd_antisymm (x.least n y.of_first y.of_others) (y.least m x.of_first x.of_others)

-- of positive numbers it is positive
pub multiple_of_pos : (a : ℕ) (bs : List ℕ) → 1 ≤ a → AllPositive bs → 1 ≤ least_multiple_of a bs
unfolding least_multiple_of
multiple_of_pos a [] p q = p
multiple_of_pos a (b ∷ bs) p q =
    multiple_of_pos (least_multiple a b) bs (multiple_pos a b p (q zero (suc-le-suc zero-le))) (λ i h. q (suc i) (suc-le-suc h))

-- its first number divides it
pub first_divides_of : (a : ℕ) (bs : List ℕ) → a ∣ least_multiple_of a bs
first_divides_of a bs = (least_multiple_of_lem a bs).of_first

-- each number of the list divides it
pub others_divide_of : (a : ℕ) (bs : List ℕ) (i : ℕ) → i < length bs → get_or bs i 0 ∣ least_multiple_of a bs
others_divide_of a bs = (least_multiple_of_lem a bs).of_others

-- it divides every common multiple
pub multiple_of_divides : (a : ℕ) (bs : List ℕ) (n : ℕ) → a ∣ n → Divide bs n → least_multiple_of a bs ∣ n
multiple_of_divides a bs = (least_multiple_of_lem a bs).least

-- a list in two parts
pub multiple_of_append : (a : ℕ) (bs cs : List ℕ) → least_multiple_of a (bs ++ cs) ≡ least_multiple_of (least_multiple_of a bs) cs
unfolding least_multiple_of
multiple_of_append a [] cs = refl
multiple_of_append a (b ∷ bs) cs = multiple_of_append (least_multiple a b) bs cs
