-- Laws of numbers and their digits, one for every width: the digits' length, that they are legal, and that the two undo one another.
-- Assumes nothing.
use Prim.Native.Nat.{ℕ, zero, suc, ◌+◌, ◌*◌, ◌/◌, ◌%◌, ◌^◌, ◌≤◌, ◌<◌}
use mathlib.Core.Path.{◌≡◌, refl, sym, ◌∙◌, ap, ap₂, subst}
use mathlib.Core.Bool.{true, not}
use mathlib.Core.List.{List, [], ◌∷◌, ◌++◌}
use mathlib.Core.Logic.{⊎_elim}
use native.Mathlib.Nat.{pow-suc, pow-succ', mod-lt, div-add-mod', div-lt_iff_lt-mul, div-div-eq-div-mul, div-one, add-mul, mul_assoc, pow-le-pow_right, one-le-pow}
use native.Mathlib.Numerals.{add-one}
use native.Mathlib.Omega.{arith}
use lib.Arith.{digits_lt, digits_div, digits_mod}
use lib.Dec.{eqb, lit<}
use lib.ListN.{length, take, drop, get_or, set, length-append}
use lib.Seq.{drop-cons, take-suc, length-take-le}
use borrow.Author.Tests.{le-leb, lt-leb, eq-eqb, ne_eqb}
use Rattle.laws.proofs.Orders.{le_or_lt}
use Rattle.digits.specs.Digit.{legal, value_of, digit_of, all_legal}
use Rattle.digits.specs.Stored.{stored}
use Rattle.digits.specs.Number.{number_from, number, hex, too_large}
use Rattle.digits.proofs.Digits.{value_digit, digit_value, digit_legal, value_below, legal_head, legal_tail, legal_append, legal_cons, legal_drop, legal_take}
use Rattle.digits.proofs.Stored.{stored_set}

-- the digits at a width are as many as the width
pub hex_length : (w v : ℕ) → length (hex w v) ≡ w
unfolding hex
hex_length zero v = refl
hex_length (suc w) v = length-append (hex w (v / 16)) (digit_of (v % 16) ∷ []) ∙ omega (arith, hex_length w (v / 16))

-- they are legal
pub hex_legal : (w v : ℕ) → all_legal (hex w v) ≡ true
unfolding hex all_legal
hex_legal zero v = refl
hex_legal (suc w) v =
    legal_append (hex w (v / 16)) (digit_of (v % 16) ∷ []) (hex_legal w (v / 16))
    (legal_cons (digit_of (v % 16)) [] (digit_legal (v % 16) (mod-lt v (lit< tt))))

-- one digit more in front multiplies by 16
pub from_cons : (h b : ℕ) (bs : List ℕ) → number_from h (b ∷ bs) ≡ number_from (h * 16 + value_of b) bs
unfolding number_from
from_cons h b bs = refl

pub from_append : (h : ℕ) (a b : List ℕ) → number_from h (a ++ b) ≡ number_from (number_from h a) b
unfolding number_from
from_append h [] b = refl
from_append h (x ∷ xs) b = from_append (h * 16 + value_of x) xs b

-- a number that fits its width is read back from its digits
pub number_hex : (w v : ℕ) → v < 16 ^ w → number (hex w v) ≡ v
unfolding hex number_from
number_hex zero v p = omega (arith, p)
number_hex (suc w) v p =
    from_append 0 (hex w (v / 16)) (digit_of (v % 16) ∷ [])
    ∙ ap₂ (λ (a b : ℕ). a * 16 + b) (number_hex w (v / 16) below) (value_digit (v % 16) (mod-lt v (lit< tt)))
    ∙ div-add-mod' v 16
  where
    below : v / 16 < 16 ^ w
    below = (div-lt_iff_lt-mul (lit< tt)).1 (subst (λ (n : ℕ). v < n) (pow-suc 16 w) p)

plain : (v : ℕ) → 0 * 16 + v ≡ v
plain v = omega arith

-- what stands in front counts by the digits behind it
pub from_high : (h : ℕ) (ds : List ℕ) → number_from h ds ≡ h * 16 ^ length ds + number ds
unfolding number_from
from_high h [] = omega arith
from_high h (b ∷ bs) =
    from_high (h * 16 + value_of b) bs
    ∙ omega (arith, from_high (0 * 16 + value_of b) bs, add-mul (h * 16) (value_of b) (16 ^ length bs), shift, first)
  where
    shift : h * 16 * 16 ^ length bs ≡ h * 16 ^ suc (length bs)
    shift = mul_assoc h 16 (16 ^ length bs) ∙ ap (λ (n : ℕ). h * n) (sym (pow-succ' 16 (length bs)))

    first : (0 * 16 + value_of b) * 16 ^ length bs ≡ value_of b * 16 ^ length bs
    first = ap (λ (n : ℕ). n * 16 ^ length bs) (plain (value_of b))

pub number_cons : (b : ℕ) (bs : List ℕ) → number (b ∷ bs) ≡ value_of b * 16 ^ length bs + number bs
number_cons b bs = from_cons 0 b bs ∙ from_high (0 * 16 + value_of b) bs ∙ ap (λ (n : ℕ). n * 16 ^ length bs + number bs) (plain (value_of b))

-- legal digits stand for a number that fits their width
pub number_below : (ds : List ℕ) → all_legal ds ≡ true → number ds < 16 ^ length ds
unfolding number_from
number_below [] p = lit< tt
number_below (b ∷ bs) p =
    subst (λ (n : ℕ). n < 16 ^ suc (length bs)) (sym (number_cons b bs))
    (subst (λ (n : ℕ). value_of b * 16 ^ length bs + number bs < n) (sym (pow-succ' 16 (length bs)))
    (digits_lt (value_below b (legal_head b bs p)) (number_below bs (legal_tail b bs p))))

-- the highest digit of a number at a width
hex_cons : (w v : ℕ) → hex (suc w) v ≡ digit_of (v / 16 ^ w % 16) ∷ hex w v
unfolding hex
hex_cons zero v = ap (λ (n : ℕ). digit_of (n % 16) ∷ []) (sym (div-one v))
hex_cons (suc w) v =
    ap (λ (l : List ℕ). l ++ (digit_of (v % 16) ∷ [])) (hex_cons w (v / 16))
    ∙ ap (λ (n : ℕ). digit_of (n % 16) ∷ (hex w (v / 16) ++ (digit_of (v % 16) ∷ [])))
    (div-div-eq-div-mul v 16 (16 ^ w) ∙ ap (λ (n : ℕ). v / n) (sym (pow-succ' 16 w)))

-- legal digits are the digits of the number that they stand for, whatever stands in front
hex_from : (h : ℕ) (ds : List ℕ) → all_legal ds ≡ true → hex (length ds) (number_from h ds) ≡ ds
unfolding hex
hex_from h [] p = refl
hex_from h (b ∷ bs) p =
    hex_cons (length bs) (number_from h (b ∷ bs))
    ∙ ap₂ ◌∷◌ (ap digit_of top ∙ digit_value b (legal_head b bs p)) (ap (hex (length bs)) (from_cons h b bs) ∙ hex_from (h * 16 + value_of b) bs (legal_tail b bs p))
  where
    top : number_from h (b ∷ bs) / 16 ^ length bs % 16 ≡ value_of b
    top =
        ap (λ (n : ℕ). n / 16 ^ length bs % 16) (from_cons h b bs ∙ from_high (h * 16 + value_of b) bs)
        ∙ ap (λ (n : ℕ). n % 16) (digits_div (h * 16 + value_of b) (number_below bs (legal_tail b bs p)))
        ∙ digits_mod h (value_below b (legal_head b bs p))

pub hex_number : (ds : List ℕ) → all_legal ds ≡ true → hex (length ds) (number ds) ≡ ds
hex_number ds p = hex_from 0 ds p

-- each digit of a legal text is legal
pub legal_at : (ds : List ℕ) (i : ℕ) → all_legal ds ≡ true → i < length ds → legal (get_or ds i 0) ≡ true
legal_at ds i p h = legal_head (get_or ds i 0) (drop (suc i) ds) (ap all_legal (sym (drop-cons ds i 0 h)) ∙ legal_drop i ds p)

-- read from its start a number grows by one digit, and stays below 64 bits up to sixteen digits
module _ (ds : List ℕ) (i : ℕ) (inside : i < length ds) where
  pub number_next : number (take (i + 1) ds) ≡ number (take i ds) * 16 + value_of (get_or ds i 0)
  unfolding number_from
  number_next =
      ap (λ (n : ℕ). number (take n ds)) (add-one i)
      ∙ ap number (take-suc ds i 0 inside)
      ∙ from_append 0 (take i ds) (get_or ds i 0 ∷ [])

  pub number_fits : all_legal ds ≡ true → i < 16 → number (take i ds) * 16 + value_of (get_or ds i 0) < 16 ^ 16
  number_fits p few =
      subst (λ (n : ℕ). n < 16 ^ 16) number_next (omega (arith, number_below (take (i + 1) ds) (legal_take (i + 1) ds p), power))
    where
      short : length (take (i + 1) ds) ≤ 16
      short = omega (arith, length-take-le (i + 1) ds (omega arith))

      power : 16 ^ length (take (i + 1) ds) ≤ 16 ^ 16
      power = pow-le-pow_right (lit< tt) short

-- the lowest digit set, and the rest yet to be stored, is the whole number stored
pub digit_stored : (b : List ℕ) (at w v : ℕ) → at + w < length b
    → stored (set b (at + w) (digit_of (v % 16))) at (hex w (v / 16)) ≡ stored b at (hex (suc w) v)
unfolding hex
digit_stored b at w v p =
    ap (λ (n : ℕ). stored (set b (at + n) (digit_of (v % 16))) at (hex w (v / 16))) (sym (hex_length w (v / 16)))
    ∙ stored_set b at (hex w (v / 16)) (digit_of (v % 16)) (subst (λ (n : ℕ). at + n < length b) (sym (hex_length w (v / 16))) p)

-- a number that has something left after a width's digits is too large for it
pub digits_left : (w v : ℕ) → not (eqb (v / 16 ^ w) 0) ≡ too_large w v
digits_left w v =
    ⊎_elim
    (λ (p : 16 ^ w ≤ v). ap not (ne_eqb (v / 16 ^ w) 0 (λ (e : v / 16 ^ w ≡ 0). omega (arith, (div-lt_iff_lt-mul {k = 16 ^ w} {x = v} {y = 1} above).0 (omega (arith, e))))) ∙ sym (le-leb (16 ^ w) v p))
    (λ (p : v < 16 ^ w). ap not (eq-eqb (v / 16 ^ w) 0 (omega (arith, (div-lt_iff_lt-mul {k = 16 ^ w} {x = v} {y = 1} above).1 (omega (arith, p))))) ∙ sym (lt-leb (16 ^ w) v p))
    (le_or_lt (16 ^ w) v)
  where
    above : 0 < 16 ^ w
    above = one-le-pow w 16 (lit< tt)
