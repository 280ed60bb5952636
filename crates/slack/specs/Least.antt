-- Of the numbers up to a bound that have a property, the smallest one with the smallest value.
use Rattle.std.specs.Prelude.{ℕ, zero, suc, ◌≤◌, ◌<◌, Bool, true, cond, ◌&&◌, ◌≡◌, leb, ltb}

-- t, where it has p and nothing was found before or what was found has a larger value; else what was found
unfoldable pub lesser : (p : ℕ → Bool) → (v : ℕ → ℕ) → (found t : ℕ) → ℕ
lesser p v zero t = cond (p t) t 0
lesser p v (suc found) t = cond (p t && ltb (v t) (v (suc found))) t (suc found)

-- the smallest t in 1..n with p t and the smallest v t, or 0
unfoldable pub least_up_to : (p : ℕ → Bool) → (v : ℕ → ℕ) → ℕ → ℕ
least_up_to p v zero = 0
least_up_to p v (suc n) = lesser p v (least_up_to p v n) (suc n)

-- the smallest t from `from` on, up to n, with p t and the smallest v t, or 0
unfoldable pub least_from : (p : ℕ → Bool) → (v : ℕ → ℕ) → (from n : ℕ) → ℕ
least_from p v from n = least_up_to (λ (t : ℕ). leb from t && p t) v n

-- t is in 1..n and has p; no number in 1..n that has p has a smaller value, and none before t has the same
pub record Least (p : ℕ → Bool) (v : ℕ → ℕ) (n t : ℕ) : Type 0 where
  pub there : 1 ≤ t
  pub within : t ≤ n
  pub has : p t ≡ true
  pub least : (x : ℕ) → 1 ≤ x → x ≤ n → p x ≡ true → v t ≤ v x
  pub first : (x : ℕ) → 1 ≤ x → x < t → p x ≡ true → v t < v x
