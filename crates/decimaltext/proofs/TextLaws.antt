-- Laws of a number's digits in decimal: one digit more, how many there are, that they are read back, and that they are put from the last on.
-- Assumes nothing.
use Rattle.std.specs.Prelude.{Some}
use Prim.Native.Nat.{ℕ, zero, suc, ◌+◌, ◌-◌, ◌*◌, ◌/◌, ◌%◌, ◌^◌, ◌≤◌, ◌<◌}
use mathlib.Core.Path.{◌≡◌, refl, sym, ◌∙◌, ap, ap₂, subst}
use mathlib.Core.Bool.{true, ◌&&◌}
use mathlib.Core.List.{List, [], ◌∷◌, ◌++◌}
use native.Mathlib.Nat.{pow-suc, div-lt_iff_lt-mul}
use native.Mathlib.Omega.{arith}
use lib.Dec.{leb, lit<}
use lib.ListN.{length, get_or, set, length-append}
use borrow.Author.Tests.{le-leb, lt-ltb}
use mathlib.Core.Logic.{⊎_elim}
use Rattle.laws.proofs.Tests.{and_both, and_left, and_right}
use Rattle.laws.proofs.Orders.{le_or_lt}
use Rattle.digits.specs.Stored.{stored}
use Rattle.digits.proofs.Stored.{stored_nil, stored_set}
use Rattle.decimals.specs.Decimal.{all_digits, value_from, number_from, decimal_of}
use Rattle.decimals.proofs.DecimalLaws.{decimal_of_lem}
use Rattle.decimaltext.specs.Text.{digits_in, digits_of, decimal_text}

-- the last digit of a number, as a text of its own
abbrev pub last : ℕ → List ℕ
last n = (48 + n % 10) ∷ []

-- steps that are no fewer than the number make no difference
steps_same : (j k m : ℕ) → m ≤ j → m ≤ k → digits_in j m ≡ digits_in k m
unfolding digits_in
steps_same zero zero m p q = refl
steps_same zero (suc k) zero p q = refl
steps_same zero (suc k) (suc m) p q = absurd (omega arith)
steps_same (suc j) zero zero p q = refl
steps_same (suc j) zero (suc m) p q = absurd (omega arith)
steps_same (suc j) (suc k) zero p q = refl
steps_same (suc j) (suc k) (suc m) p q =
    ap (λ (l : List ℕ). l ++ last (suc m)) (steps_same j k (suc m / 10) (omega arith) (omega arith))

pub no_digits : digits_of 0 ≡ []
unfolding digits_in
no_digits = refl

pub digits_end : (m : ℕ) → m ≡ 0 → length (digits_of m) ≡ 0
digits_end m e = ap (λ (n : ℕ). length (digits_of n)) e ∙ ap length no_digits

-- the digits of a number are those of its tenth, and its last behind them
pub digits_step : (m : ℕ) → 0 < m → digits_of m ≡ digits_of (m / 10) ++ last m
unfolding digits_in
digits_step zero p = absurd (omega arith)
digits_step (suc m) p = ap (λ (l : List ℕ). l ++ last (suc m)) (steps_same m (suc m / 10) (suc m / 10) (omega arith) (omega arith))

none : (m : ℕ) → m < 10 ^ 0 → m ≡ 0
none m p = omega (arith, p)

-- a number below a power of ten has at most so many digits
digits_few : (k m : ℕ) → m < 10 ^ k → length (digits_of m) ≤ k
digits_few zero m p = omega (arith, digits_end m (none m p))
digits_few (suc k) zero p = omega (arith, ap length no_digits)
digits_few (suc k) (suc m) p =
    omega (arith, ap length (digits_step (suc m) (omega arith)), length-append (digits_of (suc m / 10)) (last (suc m)), digits_few k (suc m / 10) below)
  where
    below : suc m / 10 < 10 ^ k
    below = (div-lt_iff_lt-mul (lit< tt)).1 (subst (λ (n : ℕ). suc m < n) (pow-suc 10 k) p)

pub text_last : (n : ℕ) → decimal_text n ≡ digits_of (n / 10) ++ last n
unfolding decimal_text
text_last n = refl

pub text_length : (n : ℕ) → length (decimal_text n) ≡ length (digits_of (n / 10)) + 1
unfolding decimal_text
text_length n = length-append (digits_of (n / 10)) (last n)

pub text_few : (n : ℕ) → n < 2 ^ 64 → length (decimal_text n) ≤ 20
text_few n h = omega (arith, text_length n, digits_few 19 (n / 10) (omega arith))

pub digits_count : (m : ℕ) → 0 < m → length (digits_of m) ≡ length (digits_of (m / 10)) + 1
digits_count m p = ap length (digits_step m p) ∙ length-append (digits_of (m / 10)) (last m)

-- digits behind digits are digits, and the value of the first stands before them
digits_behind : (a b : List ℕ) → all_digits a ≡ true → all_digits b ≡ true → all_digits (a ++ b) ≡ true
unfolding all_digits
digits_behind [] b p q = q
digits_behind (x ∷ a) b p q =
    and_both (and_left (leb 48 x && leb x 57) (all_digits a) p) (digits_behind a b (and_right (leb 48 x && leb x 57) (all_digits a) p) q)

value_behind : (high : ℕ) (a b : List ℕ) → value_from high (a ++ b) ≡ value_from (value_from high a) b
unfolding value_from
value_behind high [] b = refl
value_behind high (x ∷ a) b = value_behind (high * 10 + (x - 48)) a b

-- the last digit behind the digits of a number's tenth
module _ (a : List ℕ) (n : ℕ) where
  last_digits : all_digits a ≡ true → all_digits (a ++ last n) ≡ true
  unfolding all_digits
  last_digits p = digits_behind a (last n) p (and_both (and_both (le-leb 48 (48 + n % 10) (omega arith)) (le-leb (48 + n % 10) 57 (omega arith))) refl)

  last_value : value_from 0 a ≡ n / 10 → value_from 0 (a ++ last n) ≡ n
  unfolding value_from
  last_value e = value_behind 0 a (last n) ∙ omega (arith, e)

-- the digits of a number are digits, and their value is the number
digits_read : (k m : ℕ) → m ≤ k → (all_digits (digits_in k m) ≡ true) × (value_from 0 (digits_in k m) ≡ m)
unfolding digits_in all_digits value_from
digits_read zero zero p = (refl, refl)
digits_read zero (suc m) p = absurd (omega arith)
digits_read (suc k) zero p = (refl, refl)
digits_read (suc k) (suc m) p =
    let tenth = digits_read k (suc m / 10) (omega arith) in
    (last_digits (digits_in k (suc m / 10)) (suc m) tenth.0, last_value (digits_in k (suc m / 10)) (suc m) tenth.1)

number_read : (text : List ℕ) (n : ℕ) → 0 < length text → all_digits text ≡ true → value_from 0 text ≡ n → n < 2 ^ 64 → decimal_of text ≡ Some n
unfolding number_from
number_read text n f p e h =
    decimal_of_lem text f ∙ rw (p, e, lt-ltb n (2 ^ 64) h)

pub written_read : (n : ℕ) → n < 2 ^ 64 → decimal_of (decimal_text n) ≡ Some n
unfolding decimal_text
written_read n h =
    let tenth = digits_read (n / 10) (n / 10) (omega arith) in
    number_read (decimal_text n) n (omega (arith, text_length n)) (last_digits (digits_of (n / 10)) n tenth.0) (last_value (digits_of (n / 10)) n tenth.1) h

-- the first digit stays the first with digits behind it
first_stays : (a b : List ℕ) → 48 < get_or a 0 0 → 48 < get_or (a ++ b) 0 0
first_stays [] b p = absurd (omega arith)
first_stays (x ∷ a) b p = p

-- a digit alone is the first
first_alone : (k n : ℕ) → 0 < n → n < 10 → 48 < get_or (digits_in k 0 ++ last n) 0 0
unfolding digits_in
first_alone zero n p q = omega arith
first_alone (suc k) n p q = omega arith

no_zero : (k m : ℕ) → m ≤ k → 0 < m → 48 < get_or (digits_in k m) 0 0
unfolding digits_in
no_zero zero m p q = absurd (omega arith)
no_zero (suc k) zero p q = absurd (omega arith)
no_zero (suc k) (suc m) p q = ⊎_elim
    (λ (h : 1 ≤ suc m / 10). first_stays (digits_in k (suc m / 10)) (last (suc m)) (no_zero k (suc m / 10) (omega arith) (omega arith)))
    (λ (h : suc m / 10 < 1). let none : suc m / 10 ≡ 0 = omega arith in
    subst (λ (d : ℕ). 48 < get_or (digits_in k d ++ last (suc m)) 0 0) (sym none) (first_alone k (suc m) q (omega arith)))
    (le_or_lt 1 (suc m / 10))

pub no_zero_in_front : (n : ℕ) → 0 < n → 48 < get_or (decimal_text n) 0 0
unfolding decimal_text
no_zero_in_front n p = subst (λ (l : List ℕ). 48 < get_or l 0 0) (digits_step n p) (no_zero n n (omega arith) p)

-- the last byte of a text, set where it ends, with the rest of it yet to be stored
module _ (b : List ℕ) (at left : ℕ) {v w : ℕ} (x text : List ℕ) (same : v ≡ w) (e : text ≡ x ++ (w ∷ [])) (o : left ≡ at + length text) where
  shorter : length text ≡ length x + 1
  shorter = ap length e ∙ length-append x (w ∷ [])

  pub last_place : left - 1 ≡ at + length x
  last_place = omega (arith, shorter, o)

  pub last_set : left ≤ length b → stored (set b (left - 1) v) at x ≡ stored b at text
  last_set h =
      ap₂ (λ (n u : ℕ). stored (set b n u) at x) last_place same ∙ stored_set b at x w (omega (arith, shorter, o, h)) ∙ ap (stored b at) (sym e)

-- nothing of the number is left, and nothing of its digits is yet to be stored
pub all_set : (b : List ℕ) (at m : ℕ) → m ≡ 0 → stored b at (digits_of m) ≡ b
all_set b at m e = ap (λ (n : ℕ). stored b at (digits_of n)) e ∙ ap (stored b at) no_digits ∙ stored_nil b at
