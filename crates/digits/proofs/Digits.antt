-- Laws of the sixteen digits: which bytes are legal, and that value and digit undo one another.
-- Assumes nothing.
use Prim.Native.Nat.{ℕ, ◌+◌, ◌-◌, ◌≤◌, ◌<◌}
use mathlib.Core.Path.{◌≡◌, refl, ◌∙◌, ap}
use mathlib.Core.Bool.{Bool, true, false, ◌&&◌, and-true, or-false}
use mathlib.Core.List.{List, [], ◌∷◌, ◌++◌}
use mathlib.Core.Logic.{◌⊎◌, inl, inr, ⊎_elim}
use native.Mathlib.Omega.{arith}
use lib.Dec.{leb, eqb}
use lib.ListN.{take, drop, take-append-drop}
use borrow.Author.Tests.{leb-true, le-leb, lt-leb, lt-ltb, le-ltb, ne_eqb}
use Rattle.laws.proofs.Tests.{and_both, and_left, and_right, or_either}
use Rattle.laws.proofs.Orders.{le_or_lt}
use Rattle.std.specs.List.{list_all}
use Rattle.digits.specs.Digit.{legal, value_of, digit_of, all_legal}

-- the legal bytes
pub legal_range : (b : ℕ) → legal b ≡ true → ((48 ≤ b) × (b ≤ 57)) ⊎ ((65 ≤ b) × (b ≤ 70))
unfolding legal
legal_range b p =
    ⊎_elim
    (λ (q : (leb 48 b && leb b 57) ≡ true). inl (leb-true 48 b (and_left (leb 48 b) (leb b 57) q), leb-true b 57 (and_right (leb 48 b) (leb b 57) q)))
    (λ (q : (leb 65 b && leb b 70) ≡ true). inr (leb-true 65 b (and_left (leb 65 b) (leb b 70) q), leb-true b 70 (and_right (leb 65 b) (leb b 70) q)))
    (or_either (leb 48 b && leb b 57) (leb 65 b && leb b 70) p)

-- a legal digit is at least 48, so it is never the LF
pub legal_low : (b : ℕ) → legal b ≡ true → 48 ≤ b
legal_low b p = ⊎_elim (λ (q : (48 ≤ b) × (b ≤ 57)). omega arith) (λ (q : (65 ≤ b) × (b ≤ 70)). omega arith) (legal_range b p)

pub legal_not_LF : (b : ℕ) → legal b ≡ true → eqb b 10 ≡ false
legal_not_LF b p = ne_eqb b 10 (λ (e : b ≡ 10). omega (arith, legal_low b p))

-- the test of a byte by its two cases
pub legal_to_nine : (b : ℕ) → b ≤ 57 → legal b ≡ leb 48 b
unfolding legal
legal_to_nine b p = rw (le-leb b 57 p, lt-leb 65 b (omega arith)) (or-false (leb 48 b && true) ∙ and-true (leb 48 b))

pub legal_past_nine : (b : ℕ) → 57 < b → legal b ≡ (leb 65 b && leb b 70)
unfolding legal
legal_past_nine b p = rw (lt-leb b 57 p, le-leb 48 b (omega arith))

legal_figure : (b : ℕ) → 48 ≤ b → b ≤ 57 → legal b ≡ true
unfolding legal
legal_figure b p q = simp (le-leb 48 b p, le-leb b 57 q)

legal_letter : (b : ℕ) → 65 ≤ b → b ≤ 70 → legal b ≡ true
unfolding legal
legal_letter b p q = simp (le-leb 48 b (omega arith), lt-leb b 57 (omega arith), le-leb 65 b p, le-leb b 70 q)

-- the value of a byte, and the digit of a value, by their two cases
pub value_figure : (b : ℕ) → b ≤ 57 → value_of b ≡ b - 48
unfolding value_of
value_figure b p = rw (le-leb b 57 p)

pub value_letter : (b : ℕ) → 57 < b → value_of b ≡ b - 55
unfolding value_of
value_letter b p = rw (lt-leb b 57 p)

pub digit_figure : (v : ℕ) → v < 10 → digit_of v ≡ 48 + v
unfolding digit_of
digit_figure v p = rw (lt-ltb v 10 p)

pub digit_letter : (v : ℕ) → 10 ≤ v → digit_of v ≡ 55 + v
unfolding digit_of
digit_letter v p = rw (le-ltb v 10 p)

-- value and digit undo one another
pub value_digit : (v : ℕ) → v < 16 → value_of (digit_of v) ≡ v
value_digit v p =
    ⊎_elim
    (λ (q : 10 ≤ v). ap value_of (digit_letter v q) ∙ omega (arith, value_letter (55 + v) (omega arith)))
    (λ (q : v < 10). ap value_of (digit_figure v q) ∙ omega (arith, value_figure (48 + v) (omega arith)))
    (le_or_lt 10 v)

pub digit_value : (b : ℕ) → legal b ≡ true → digit_of (value_of b) ≡ b
digit_value b p =
    ⊎_elim
    (λ (q : (48 ≤ b) × (b ≤ 57)). ap digit_of (value_figure b q.1) ∙ omega (arith, digit_figure (b - 48) (omega arith)))
    (λ (q : (65 ≤ b) × (b ≤ 70)). ap digit_of (value_letter b (omega arith)) ∙ omega (arith, digit_letter (b - 55) (omega arith)))
    (legal_range b p)

-- the digit of a value is legal, and the value of a legal digit is below 16
pub digit_legal : (v : ℕ) → v < 16 → legal (digit_of v) ≡ true
digit_legal v p =
    ⊎_elim
    (λ (q : 10 ≤ v). ap legal (digit_letter v q) ∙ legal_letter (55 + v) (omega arith) (omega arith))
    (λ (q : v < 10). ap legal (digit_figure v q) ∙ legal_figure (48 + v) (omega arith) (omega arith))
    (le_or_lt 10 v)

pub value_below : (b : ℕ) → legal b ≡ true → value_of b < 16
value_below b p =
    ⊎_elim
    (λ (q : (48 ≤ b) × (b ≤ 57)). omega (arith, value_figure b q.1))
    (λ (q : (65 ≤ b) × (b ≤ 70)). omega (arith, value_letter b (omega arith)))
    (legal_range b p)

-- a text of legal digits, byte by byte and part by part
pub legal_head : (b : ℕ) (bs : List ℕ) → all_legal (b ∷ bs) ≡ true → legal b ≡ true
unfolding all_legal
legal_head b bs p = and_left (legal b) (all_legal bs) p

pub legal_tail : (b : ℕ) (bs : List ℕ) → all_legal (b ∷ bs) ≡ true → all_legal bs ≡ true
unfolding all_legal
legal_tail b bs p = and_right (legal b) (all_legal bs) p

pub legal_cons : (b : ℕ) (bs : List ℕ) → legal b ≡ true → all_legal (b ∷ bs) ≡ all_legal bs
unfolding all_legal
legal_cons b bs p = rw p

pub legal_append : (a b : List ℕ) → all_legal a ≡ true → all_legal b ≡ true → all_legal (a ++ b) ≡ true
legal_append [] b p q = q
legal_append (x ∷ xs) b p q = legal_cons x (xs ++ b) (legal_head x xs p) ∙ legal_append xs b (legal_tail x xs p) q

pub legal_left : (a b : List ℕ) → all_legal (a ++ b) ≡ true → all_legal a ≡ true
unfolding all_legal
legal_left [] b p = refl
legal_left (x ∷ xs) b p = and_both (legal_head x (xs ++ b) p) (legal_left xs b (legal_tail x (xs ++ b) p))

pub legal_right : (a b : List ℕ) → all_legal (a ++ b) ≡ true → all_legal b ≡ true
legal_right [] b p = p
legal_right (x ∷ xs) b p = legal_right xs b (legal_tail x (xs ++ b) p)

pub legal_take : (n : ℕ) (ds : List ℕ) → all_legal ds ≡ true → all_legal (take n ds) ≡ true
legal_take n ds p = legal_left (take n ds) (drop n ds) (rw take-append-drop p)

pub legal_drop : (n : ℕ) (ds : List ℕ) → all_legal ds ≡ true → all_legal (drop n ds) ≡ true
legal_drop n ds p = legal_right (take n ds) (drop n ds) (rw take-append-drop p)

-- it is legal where each byte is
pub legal_each : (bs : List ℕ) → all_legal bs ≡ list_all legal bs
unfolding all_legal
legal_each [] = refl
legal_each (b ∷ bs) = ap (λ (t : Bool). legal b && t) (legal_each bs)
