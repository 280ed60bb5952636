-- Sums over the numbers below a bound: term by term, split, exchanged, and over a turn from any start.
-- Assumes nothing.
use Prim.Native.Nat.{ℕ, zero, suc, ◌+◌, ◌*◌, ◌-◌, ◌%◌, ◌≤◌, ◌<◌}
use mathlib.Core.Path.{◌≡◌, refl, sym, ap, ◌∙◌}
use native.Mathlib.Nat.{le_refl, mod-eq_of_lt, add-mod_right, add-zero, add-suc, add_comm}
use native.Mathlib.Omega.{arith}

-- the sum of f i over i below n
unfoldable pub sum_to : (ℕ → ℕ) → ℕ → ℕ
sum_to f zero = 0
sum_to f (suc n) = sum_to f n + f n

pub sum_suc : (f : ℕ → ℕ) (n : ℕ) → sum_to f (suc n) ≡ sum_to f n + f n
unfolding sum_to
sum_suc f n = refl

-- the first term, and the rest
pub sum_first : (f : ℕ → ℕ) (n : ℕ) → sum_to f (suc n) ≡ f 0 + sum_to (λ i. f (suc i)) n
unfolding sum_to
sum_first f zero = omega arith
sum_first f (suc n) = omega (arith, sum_first f n)

-- sums of equal terms are equal
pub sum_same : (f g : ℕ → ℕ) (n : ℕ) → ((i : ℕ) → i < n → f i ≡ g i) → sum_to f n ≡ sum_to g n
unfolding sum_to
sum_same f g zero e = refl
sum_same f g (suc n) e = omega (arith, sum_same f g n (λ i l. e i (omega arith)), e n (le_refl (suc n)))

-- a sum of sums is the sum of both
pub sum_add : (f g : ℕ → ℕ) (n : ℕ) → sum_to (λ i. f i + g i) n ≡ sum_to f n + sum_to g n
unfolding sum_to
sum_add f g zero = refl
sum_add f g (suc n) = omega (arith, sum_add f g n)

-- of n equal terms
pub sum_const : (k n : ℕ) → sum_to (λ i. k) n ≡ n * k
unfolding sum_to
sum_const k zero = omega arith
sum_const k (suc n) = omega (arith, sum_const k n)

-- the first a terms, and the rest
pub sum_split : (f : ℕ → ℕ) (a b : ℕ) → sum_to f (a + b) ≡ sum_to f a + sum_to (λ i. f (a + i)) b
unfolding sum_to
sum_split f a zero = omega (arith, ap (sum_to f) (add-zero a))
sum_split f a (suc b) = omega (arith, ap (sum_to f) (add-suc a b), sum_split f a b)

-- two sums, one in the other, can be exchanged
pub sum_swap : (f : ℕ → ℕ → ℕ) (m n : ℕ) → sum_to (λ i. sum_to (λ j. f i j) n) m ≡ sum_to (λ j. sum_to (λ i. f i j) m) n
unfolding sum_to
sum_swap f zero n = sym (sum_const 0 n ∙ omega arith)
sum_swap f (suc m) n =
    omega (arith, sum_swap f m n, sum_add (λ j. sum_to (λ i. f i j) m) (λ j. f m j) n)

-- over a turn of the circle a sum does not depend on where it starts
pub sum_turn : (f : ℕ → ℕ) (L z : ℕ) → z ≤ L → sum_to (λ i. f ((i + z) % L)) L ≡ sum_to f L
sum_turn f L z h =
    let a : L - z + z ≡ L = omega arith in
    let b : z + (L - z) ≡ L = omega arith in
    omega (
      arith,
      ap (sum_to (λ i. f ((i + z) % L))) a,
      sum_split (λ i. f ((i + z) % L)) (L - z) z,
      sum_same (λ i. f ((i + z) % L)) (λ i. f (z + i)) (L - z) (λ i l. ap f (to_end i l)),
      sum_same (λ i. f ((L - z + i + z) % L)) f z (λ i l. ap f (from_start i l)),
      sum_split f z (L - z),
      ap (sum_to f) b,
    )
  where
    to_end : (i : ℕ) → i < L - z → (i + z) % L ≡ z + i
    to_end i l = ap (λ (n : ℕ). n % L) (add_comm i z) ∙ mod-eq_of_lt (omega arith)

    from_start : (i : ℕ) → i < z → (L - z + i + z) % L ≡ i
    from_start i l =
        let e : L - z + i + z ≡ i + L = omega arith in
        ap (λ (n : ℕ). n % L) e ∙ add-mod_right i L ∙ mod-eq_of_lt (omega arith)
