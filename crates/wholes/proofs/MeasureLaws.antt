-- The common measure is the greatest common divisor, and the only one. Its laws, over the meaning and over `common_measure`.
-- Assumes nothing.
use Prim.Native.Nat.{ℕ, zero, suc, ◌*◌, ◌-◌, ◌/◌, ◌%◌, ◌≤◌, ◌∣◌}
use mathlib.Core.Path.{◌≡◌, refl, sym, ap, subst, ◌∙◌}
use native.Mathlib.Nat.{
  le_of_suc-le-suc,
  not-suc-le-zero,
  lt_of_lt_of_le,
  zero-lt-suc,
  mul_assoc,
  mul-sub,
  mod_def,
  mod-lt,
  dvd_refl,
  dvd-zero,
  dvd-sub,
  dvd-mul_right_of_dvd,
  dvd-mod_iff,
  dvd_antisymm,
  pos_of_dvd_of_pos,
}
use native.Mathlib.Omega.{arith}
use Rattle.wholes.specs.Measure.{CommonMeasure, measure_in, common_measure}

-- what divides k·a and k·b divides k times the remainder
scaled_mod : (d k a b : ℕ) → d ∣ k * a → d ∣ k * b → d ∣ k * (a % b)
scaled_mod d k a b p q = subst (λ (n : ℕ). d ∣ n) (sym e) (dvd-sub d p (dvd-mul_right_of_dvd d q (a / b)))
  where
    e : k * (a % b) ≡ k * a - k * b * (a / b)
    e =
        ap (λ (n : ℕ). k * n) (mod_def a b) ∙ mul-sub k a (b * (a / b))
        ∙ ap (λ (n : ℕ). k * a - n) (sym (mul_assoc k b (a / b)))

-- what divides k·a and k·b divides k times what the remainders come to
scaled_in : (turns a b k d : ℕ) → d ∣ k * a → d ∣ k * b → d ∣ k * measure_in turns a b
unfolding measure_in
scaled_in zero a b k d p q = p
scaled_in (suc turns) a zero k d p q = p
scaled_in (suc turns) a (suc b) k d p q = scaled_in turns (suc b) (a % suc b) k d q (scaled_mod d k a (suc b) p q)

-- what divides b and the remainder divides a and b
back : (g a b : ℕ) → (g ∣ b) × (g ∣ a % b) → (g ∣ a) × (g ∣ b)
back g a b h = ((dvd-mod_iff g h.0).0 h.1, h.0)

-- with turns enough, what the remainders come to divides both
divides_in : (turns a b : ℕ) → b ≤ turns → (measure_in turns a b ∣ a) × (measure_in turns a b ∣ b)
unfolding measure_in
divides_in zero a zero h = (dvd_refl a, dvd-zero a)
divides_in zero a (suc b) h = absurd (not-suc-le-zero h)
divides_in (suc turns) a zero h = (dvd_refl a, dvd-zero a)
divides_in (suc turns) a (suc b) h =
    back (measure_in turns (suc b) (a % suc b)) a (suc b)
    (divides_in turns (suc b) (a % suc b) (le_of_suc-le-suc (lt_of_lt_of_le (mod-lt a (zero-lt-suc b)) h)))

-- what divides n·a and n·b divides n times the common measure
pub scaled_measure : (a b n d : ℕ) → d ∣ n * a → d ∣ n * b → d ∣ n * common_measure a b
unfolding common_measure
scaled_measure a b n d p q = scaled_in b a b n d p q

once : (n : ℕ) → 1 * n ≡ n
once n = omega arith

-- `common_measure` is the common measure
pub common_measure_lem : (a b : ℕ) → CommonMeasure a b (common_measure a b)
unfolding common_measure
common_measure_lem a b = record {
  of_first = (divides_in b a b (omega arith)).0;
  of_second = (divides_in b a b (omega arith)).1;
  greatest = λ d p q.
      subst (λ (n : ℕ). d ∣ n) (once (measure_in b a b))
      (scaled_in b a b 1 d (subst (λ (n : ℕ). d ∣ n) (sym (once a)) p) (subst (λ (n : ℕ). d ∣ n) (sym (once b)) q));
}

-- two numbers have one common measure
pub measure_unique : {a b g h : ℕ} → CommonMeasure a b g → CommonMeasure a b h → g ≡ h
measure_unique {a} {b} {g} {h} x y =
    dvd_antisymm (y.greatest g x.of_first x.of_second) (x.greatest h y.of_first y.of_second)

-- a turn: the second number and the remainder have the same common measure
pub measure_turn : (a b : ℕ) → common_measure b (a % b) ≡ common_measure a b
measure_turn a b = measure_unique turned (common_measure_lem a b)
  where
    of_rest : CommonMeasure b (a % b) (common_measure b (a % b))
    of_rest = common_measure_lem b (a % b)

    turned : CommonMeasure a b (common_measure b (a % b))
    turned = record {
      of_first = (dvd-mod_iff _ of_rest.of_first).0 of_rest.of_second;
      of_second = of_rest.of_first;
      greatest = λ d p q. of_rest.greatest d q ((dvd-mod_iff d q).1 p);
    }

-- with 0 it is the other number
pub measure_zero : (a : ℕ) → common_measure a 0 ≡ a
unfolding common_measure measure_in
measure_zero a = refl

-- of a positive second number it is positive
pub measure_pos : (a b : ℕ) → 1 ≤ b → 1 ≤ common_measure a b
measure_pos a b h = pos_of_dvd_of_pos (common_measure_lem a b).of_second h
