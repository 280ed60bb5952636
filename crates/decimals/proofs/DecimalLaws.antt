-- Laws of numbers in decimal, by the next byte: no digit, a digit that takes the number past 2^64, a digit that goes behind it.
-- Assumes nothing.
use Rattle.std.specs.Prelude.{None, Some, Option}
use Prim.Native.Nat.{ℕ, suc, ◌+◌, ◌*◌, ◌-◌, ◌^◌, ◌≤◌, ◌<◌}
use mathlib.Core.List.{List, [], ◌∷◌}
use mathlib.Core.Path.{◌≡◌, refl, sym, ◌∙◌, ap, subst}
use mathlib.Core.Bool.{and-false}
use lib.Dec.{leb}
use lib.ListN.{length, get_or, drop, drop_of_length-le}
use lib.Seq.{drop-cons}
use native.Mathlib.Numerals.{add-one}
use mathlib.Core.Logic.{⊎_elim}
use native.Mathlib.Omega.{arith}
use borrow.Author.Tests.{lt-ltb, le-ltb, lt-leb, le-leb}
use Rattle.laws.proofs.Tests.{clash}
use Rattle.laws.proofs.Orders.{le_or_lt}
use Rattle.decimals.specs.Decimal.{all_digits, value_from, number_from, decimal_of}

-- digits behind a number make it no smaller
grows : (high : ℕ) (bs : List ℕ) → high ≤ value_from high bs
unfolding value_from
grows high [] = omega arith
grows high (b ∷ bs) = omega (arith, grows (high * 10 + (b - 48)) bs)

-- what is 2^64 or more stays wrong
pub too_large_lem : (high : ℕ) (bs : List ℕ) → 2 ^ 64 ≤ high → number_from high bs ≡ None
unfolding number_from
too_large_lem high bs h =
    rw (le-ltb (value_from high bs) (2 ^ 64) (omega (arith, grows high bs)), and-false (all_digits bs))

pub no_more : (high : ℕ) → high < 2 ^ 64 → number_from high [] ≡ Some high
unfolding number_from all_digits value_from
no_more high h = rw (lt-ltb high (2 ^ 64) h)

of_same : {m n : ℕ} → ◌≡◌ {A = Option ℕ} (Some m) (Some n) → m ≡ n
of_same e = cc

no_number : {A : Type 0} {n : ℕ} → ◌≡◌ {A = Option ℕ} None (Some n) → A
no_number e = clash (cc)

-- by the next byte
module _ (high b : ℕ) where
  pub below_digits : (bs : List ℕ) → b < 48 → number_from high (b ∷ bs) ≡ None
  unfolding number_from all_digits
  below_digits bs h = rw (lt-leb 48 b h)

  pub above_digits : (bs : List ℕ) → 57 < b → number_from high (b ∷ bs) ≡ None
  unfolding number_from all_digits
  above_digits bs h = rw (lt-leb b 57 h, and-false (leb 48 b))

  pub digit_behind : (bs : List ℕ) → 48 ≤ b → b ≤ 57 → number_from high (b ∷ bs) ≡ number_from (high * 10 + (b - 48)) bs
  unfolding number_from all_digits value_from
  digit_behind bs h k = rw (le-leb 48 b h, le-leb b 57 k)

  -- a digit alone behind a number that stays below 2^64, and one that does not
  pub digit_fits : 48 ≤ b → b ≤ 57 → high * 10 + (b - 48) < 2 ^ 64 → number_from high (b ∷ []) ≡ Some (high * 10 + (b - 48))
  digit_fits h k f = digit_behind [] h k ∙ no_more (high * 10 + (b - 48)) f

  pub digit_large : (bs : List ℕ) → 48 ≤ b → b ≤ 57 → 2 ^ 64 ≤ high * 10 + (b - 48) → number_from high (b ∷ bs) ≡ None
  digit_large bs h k f = digit_behind bs h k ∙ too_large_lem (high * 10 + (b - 48)) bs f

  -- one byte behind a number is a number: what follows is read behind that
  pub step_of : (bs : List ℕ) (n : ℕ) → number_from high (b ∷ []) ≡ Some n → (n < 2 ^ 64) × (number_from high (b ∷ bs) ≡ number_from n bs)
  step_of bs n e =
      ⊎_elim
      (λ (p : 48 ≤ b). ⊎_elim
      (λ (q : b ≤ 57). ⊎_elim
      (λ (f : 2 ^ 64 ≤ high * 10 + (b - 48)). no_number (sym (digit_large [] p q f) ∙ e))
      (λ (f : high * 10 + (b - 48) < 2 ^ 64). let same : high * 10 + (b - 48) ≡ n = of_same (sym (digit_fits p q f) ∙ e) in
      (subst (λ (m : ℕ). m < 2 ^ 64) same f, digit_behind bs p q ∙ ap (λ (m : ℕ). number_from m bs) same))
      (le_or_lt (2 ^ 64) (high * 10 + (b - 48))))
      (λ (q : 57 < b). no_number (sym (above_digits [] q) ∙ e))
      (le_or_lt b 57))
      (λ (p : b < 48). no_number (sym (below_digits [] p) ∙ e))
      (le_or_lt 48 b)

  -- one byte behind a number is none: nor is what follows
  pub step_wrong : (bs : List ℕ) → number_from high (b ∷ []) ≡ None → number_from high (b ∷ bs) ≡ None
  step_wrong bs e =
      ⊎_elim
      (λ (p : 48 ≤ b). ⊎_elim
      (λ (q : b ≤ 57). ⊎_elim
      (λ (f : 2 ^ 64 ≤ high * 10 + (b - 48)). digit_large bs p q f)
      (λ (f : high * 10 + (b - 48) < 2 ^ 64). no_number (sym e ∙ digit_fits p q f))
      (le_or_lt (2 ^ 64) (high * 10 + (b - 48))))
      (λ (q : 57 < b). above_digits bs q)
      (le_or_lt b 57))
      (λ (p : b < 48). below_digits bs p)
      (le_or_lt 48 b)

pub decimal_of_lem : (text : List ℕ) → 0 < length text → decimal_of text ≡ number_from 0 text
unfolding decimal_of
decimal_of_lem [] h = absurd (omega arith)
decimal_of_lem (b ∷ bs) h = refl

pub decimal_none : (text : List ℕ) → length text ≡ 0 → decimal_of text ≡ None
unfolding decimal_of
decimal_none [] h = refl
decimal_none (b ∷ bs) h = absurd (omega (arith, h))

-- the bytes left behind the number so far, at place i of the text
module _ (text : List ℕ) (i value : ℕ) where
  pub read_out : length text ≤ i → value < 2 ^ 64 → number_from value (drop i text) ≡ Some value
  read_out h f = ap (number_from value) (drop_of_length-le text h) ∙ no_more value f

  module _ (h : i < length text) where
    pub next_of : (n : ℕ) → number_from value (get_or text i 0 ∷ []) ≡ Some n
        → (n < 2 ^ 64) × (number_from value (drop i text) ≡ number_from n (drop (i + 1) text))
    next_of n e =
        let s = step_of value (get_or text i 0) (drop (suc i) text) n e in
        (s.0, ap (number_from value) (drop-cons text i 0 h) ∙ s.1 ∙ ap (λ (k : ℕ). number_from n (drop k text)) (sym (add-one i)))

    pub next_wrong : number_from value (get_or text i 0 ∷ []) ≡ None → number_from value (drop i text) ≡ None
    next_wrong e = ap (number_from value) (drop-cons text i 0 h) ∙ step_wrong value (get_or text i 0) (drop (suc i) text) e
