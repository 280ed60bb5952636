-- Sums over the reserves in server order: where each ring server starts, how many have a whole processor, and the ring's length.
-- Assumes nothing.
use Prim.Native.Nat.{ℕ, zero, suc, ◌+◌, ◌*◌, ◌≤◌, ◌<◌, ◌^◌}
use mathlib.Core.Path.{◌≡◌, refl, ap}
use mathlib.Core.Bool.{cond}
use mathlib.Core.List.{List, [], ◌∷◌, ◌++◌}
use mathlib.Core.Logic.{⊎_elim}
use native.Mathlib.Nat.{le_trans, le_refl, mul-le-mul_right}
use native.Mathlib.Omega.{arith}
use lib.Dec.{ltb}
use lib.ListN.{length, get_or, take, drop, take-append-drop}
use lib.Seq.{take-suc, take-take, length-take-le}
use Rattle.laws.proofs.Orders.{le_or_lt}
use Rattle.laws.proofs.Choices.{cond_ltb, cond_ltb_not}
use Rattle.wholes.proofs.CeilingLaws.{ceiling_least}
use Rattle.reserves.specs.Slotted.{SlottedFirst}
use Rattle.reserves.specs.Reserves.{ring_ticks, wholes, ring_processors, ring_length}

-- ---- a sum over a list, by the first element and the rest

module _ (F : List ℕ → ℕ) (g : ℕ → ℕ) (nil : F [] ≡ 0) (cons : (R : ℕ) (Rs : List ℕ) → F (R ∷ Rs) ≡ g R + F Rs) where
  sum_append : (xs ys : List ℕ) → F (xs ++ ys) ≡ F xs + F ys
  sum_append [] ys = omega (arith, nil)
  sum_append (x ∷ xs) ys = omega (arith, cons x (xs ++ ys), cons x xs, sum_append xs ys)

  -- one element more adds its term
  sum_next : (xs : List ℕ) (i : ℕ) → i < length xs → F (take (suc i) xs) ≡ F (take i xs) + g (get_or xs i 0)
  sum_next xs i h =
      rw (take-suc xs i 0)
      (omega (arith, sum_append (take i xs) (get_or xs i 0 ∷ []), cons (get_or xs i 0) [], nil))

  -- a part sums to no more than the whole
  sum_part : (i : ℕ) (xs : List ℕ) → F (take i xs) ≤ F xs
  sum_part i xs = omega (arith, sum_append (take i xs) (drop i xs), ap F (take-append-drop i xs))

  sum_mono : (xs : List ℕ) {i j : ℕ} → i ≤ j → F (take i xs) ≤ F (take j xs)
  sum_mono xs {i} {j} h = rw (take-take i j xs h) at (sum_part i (take j xs))

-- ---- the ticks on the ring, and the whole processors

abbrev ring_term : ℕ → ℕ → ℕ
ring_term S R = cond (ltb R S) R 0

abbrev whole_term : ℕ → ℕ → ℕ
whole_term S R = cond (ltb R S) 0 1

module _ (S : ℕ) where
  pub ring_cons : (R : ℕ) (Rs : List ℕ) → ring_ticks S (R ∷ Rs) ≡ ring_term S R + ring_ticks S Rs
  unfolding ring_ticks
  ring_cons R Rs = refl

  pub ring_nil : ring_ticks S [] ≡ 0
  unfolding ring_ticks
  ring_nil = refl

  pub wholes_cons : (R : ℕ) (Rs : List ℕ) → wholes S (R ∷ Rs) ≡ whole_term S R + wholes S Rs
  unfolding wholes
  wholes_cons R Rs = refl

  pub wholes_nil : wholes S [] ≡ 0
  unfolding wholes
  wholes_nil = refl

  module _ (rs : List ℕ) where
    -- a ring server starts where those before it end, and ends its reserve later
    pub ring_more : (i : ℕ) → i < length rs → get_or rs i 0 < S → ring_ticks S (take (suc i) rs) ≡ ring_ticks S (take i rs) + get_or rs i 0
    ring_more i h l =
        omega (arith, sum_next (ring_ticks S) (ring_term S) ring_nil ring_cons rs i h, cond_ltb (get_or rs i 0) 0 l)

    -- a whole processor's server takes no position
    pub ring_same : (i : ℕ) → i < length rs → S ≤ get_or rs i 0 → ring_ticks S (take (suc i) rs) ≡ ring_ticks S (take i rs)
    ring_same i h l =
        omega (arith, sum_next (ring_ticks S) (ring_term S) ring_nil ring_cons rs i h, cond_ltb_not (get_or rs i 0) 0 l)

    pub ring_mono : {i j : ℕ} → i ≤ j → ring_ticks S (take i rs) ≤ ring_ticks S (take j rs)
    ring_mono h = sum_mono (ring_ticks S) (ring_term S) ring_nil ring_cons rs h

    pub ring_part : (i : ℕ) → ring_ticks S (take i rs) ≤ ring_ticks S rs
    ring_part i = sum_part (ring_ticks S) (ring_term S) ring_nil ring_cons i rs

    pub wholes_same : (i : ℕ) → i < length rs → get_or rs i 0 < S → wholes S (take (suc i) rs) ≡ wholes S (take i rs)
    wholes_same i h l =
        omega (arith, sum_next (wholes S) (whole_term S) wholes_nil wholes_cons rs i h, cond_ltb 0 1 l)

    pub wholes_more : (i : ℕ) → i < length rs → S ≤ get_or rs i 0 → wholes S (take (suc i) rs) ≡ wholes S (take i rs) + 1
    wholes_more i h l =
        omega (arith, sum_next (wholes S) (whole_term S) wholes_nil wholes_cons rs i h, cond_ltb_not 0 1 l)

  term_below : (R : ℕ) → ring_term S R ≤ S
  term_below R =
      ⊎_elim (λ (p : S ≤ R). omega (arith, cond_ltb_not R 0 p)) (λ (p : R < S). omega (arith, cond_ltb R 0 p)) (le_or_lt S R)

  -- each server has at most a slot of the ring
  pub ring_below : (xs : List ℕ) → ring_ticks S xs ≤ length xs * S
  ring_below [] = omega (arith, ring_nil)
  ring_below (R ∷ Rs) = omega (arith, ring_cons R Rs, ring_below Rs, term_below R)

  whole_below : (R : ℕ) → whole_term S R ≤ 1
  whole_below R =
      ⊎_elim (λ (p : S ≤ R). omega (arith, cond_ltb_not 0 1 p)) (λ (p : R < S). omega (arith, cond_ltb 0 1 p)) (le_or_lt S R)

  -- at most as many whole processors as servers
  pub wholes_below : (xs : List ℕ) → wholes S xs ≤ length xs
  wholes_below [] = omega (arith, wholes_nil)
  wholes_below (R ∷ Rs) = omega (arith, wholes_cons R Rs, wholes_below Rs, whole_below R)

  -- ---- the ring's length: the reserves, and less than a slot of idle positions

  pub ring_holds : (xs : List ℕ) → 1 ≤ S → ring_ticks S xs ≤ ring_length S xs
  ring_holds xs h = (ceiling_least (ring_ticks S xs) S h).covers

  -- a number of slots that is below r does not hold the reserves
  pub ring_least : (xs : List ℕ) {k : ℕ} → 1 ≤ S → k < ring_processors S xs → k * S < ring_ticks S xs
  ring_least xs {k} h l =
      ⊎_elim
      (λ (p : ring_ticks S xs ≤ k * S). let g = (ceiling_least (ring_ticks S xs) S h).least k p in absurd (omega arith))
      (λ (p : k * S < ring_ticks S xs). p)
      (le_or_lt (ring_ticks S xs) (k * S))

  -- the ring is less than a slot longer than its reserves
  length_within : (t r : ℕ) → 1 ≤ S → ((k : ℕ) → k < r → k * S < t) → r * S < t + S
  length_within t zero h f = omega arith
  length_within t (suc r) h f = omega (arith, f r (omega arith))

  pub ring_tight : (xs : List ℕ) → 1 ≤ S → ring_length S xs < ring_ticks S xs + S
  ring_tight xs h = length_within (ring_ticks S xs) (ring_processors S xs) h (λ k l. ring_least xs h l)

-- ---- the first n of a slice

module _ {S : ℕ} {rs : List ℕ} {n : ℕ} (laid : SlottedFirst S rs n) where
  pub taken_length : length (take n rs) ≡ n
  taken_length = length-take-le n rs laid.there

  -- fewer are as good
  pub fewer : (i : ℕ) → i ≤ n → SlottedFirst S rs i
  fewer i h = record {
    there = omega (arith, laid.there);
    few = omega (arith, laid.few);
    slot_some = laid.slot_some;
    slot_below = laid.slot_below;
    some = λ j l. laid.some j (omega arith);
    within = λ j l. laid.within j (omega arith);
  }

  -- the start of a server is a sum over the slice itself
  pub taken_start : (i : ℕ) → i ≤ n → ring_ticks S (take i (take n rs)) ≡ ring_ticks S (take i rs)
  taken_start i h = ap (ring_ticks S) (take-take i n rs h)

  -- the sum has room
  pub ring_room : (i : ℕ) → i ≤ n → ring_ticks S (take i rs) ≤ 256 * S
  ring_room i h =
      le_trans (ring_below S (take i rs))
      (rw (length-take-le i rs (le_trans h laid.there)) (mul-le-mul_right S (le_trans h laid.few)))

  pub length_room : ring_length S (take n rs) < 2 ^ 41
  length_room =
      let b = laid.slot_below in
      let t = ring_tight S (take n rs) laid.slot_some in
      omega (arith, ring_room n (le_refl n))
