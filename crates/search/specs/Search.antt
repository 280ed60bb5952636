-- The largest and the smallest length up to a bound that has a property, and the property searched for: demand past supply.
-- Every search of the tool is stated by these, so that the way of searching can be replaced.
use Rattle.std.specs.Prelude.{ℕ, zero, suc, ◌+◌, ◌^◌, ◌≤◌, ◌<◌, Bool, true, false, cond, ◌&&◌, ◌≡◌, ltb}
use Rattle.demand.specs.Supply.{supply_past}

-- the largest t in 1..n with p t, or 0
unfoldable pub last_up_to : (ℕ → Bool) → ℕ → ℕ
last_up_to p zero = 0
last_up_to p (suc n) = cond (p (suc n)) (suc n) (last_up_to p n)

-- the first number, or the second where the first is 0
abbrev pub or_else : ℕ → ℕ → ℕ
or_else zero b = b
or_else (suc a) b = suc a

-- the smallest t in 1..n with p t, or 0
unfoldable pub first_up_to : (ℕ → Bool) → ℕ → ℕ
first_up_to p zero = 0
first_up_to p (suc n) = or_else (first_up_to p n) (cond (p (suc n)) (suc n) 0)

-- the smallest t above lo, up to n, with p t, or 0
unfoldable pub first_after : (ℕ → Bool) → (lo n : ℕ) → ℕ
first_after p lo n = first_up_to (λ (t : ℕ). ltb lo t && p t) n

-- no number above a, up to b, has p
abbrev pub NoneIn : (ℕ → Bool) → (a b : ℕ) → Type 0
NoneIn p a b = (x : ℕ) → a < x → x ≤ b → p x ≡ false

-- t is the largest number in 1..n that has p
pub record Last (p : ℕ → Bool) (n t : ℕ) : Type 0 where
  pub there : 1 ≤ t
  pub within : t ≤ n
  pub has : p t ≡ true
  pub after : NoneIn p t n

-- t is the smallest number from 1 on that has p
pub record First (p : ℕ → Bool) (t : ℕ) : Type 0 where
  pub there : 1 ≤ t
  pub has : p t ≡ true
  pub before : (x : ℕ) → 1 ≤ x → x < t → p x ≡ false

-- t is the smallest number above lo that has p
pub record Next (p : ℕ → Bool) (lo t : ℕ) : Type 0 where
  pub above : lo < t
  pub has : p t ≡ true
  pub before : (x : ℕ) → lo < x → x < t → p x ≡ false

-- at length t the demand, with extra added, exceeds the supply past a gap of f
unfoldable pub short : (g : ℕ → ℕ) → (S f extra : ℕ) → ℕ → Bool
short g S f extra t = ltb (supply_past S f t) (g t + extra)

-- what a search asks of its numbers: something is usable in each slot, and lengths and extra are small
pub record Searched (S f extra hi : ℕ) : Type 0 where
  pub usable : f < S
  pub small_extra : extra < 2 ^ 36
  pub small : hi < 2 ^ 36
