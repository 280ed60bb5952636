-- Turns on a circle: a turn of less than the circle is told by where it ends.
-- Assumes nothing.
use Prim.Native.Nat.{ℕ, ◌+◌, ◌*◌, ◌-◌, ◌/◌, ◌%◌, ◌≤◌, ◌<◌}
use mathlib.Core.Path.{◌≡◌, sym, ap, ◌∙◌}
use mathlib.Core.Logic.{◌⊎◌, inl, inr, ⊎_elim}
use native.Mathlib.Nat.{mod-lt, mod-eq_of_lt, mod-eq-sub-mod, mod-add-mod, add-mod-mod, add-mul-mod_self_right, div-add-mod'}
use native.Mathlib.Omega.{arith}
use Rattle.laws.proofs.Orders.{le_or_lt}

-- a turn by j from b stays, or passes the end once
pub turn_cases : (r b j : ℕ) → b < r → j < r → ((b + j < r) × ((b + j) % r ≡ b + j)) ⊎ ((r ≤ b + j) × ((b + j) % r ≡ b + j - r))
turn_cases r b j hb hj =
    ⊎_elim
    (λ (p : r ≤ b + j).
    let l : b + j - r < r = omega arith in
    inr (p, mod-eq-sub-mod p ∙ mod-eq_of_lt l))
    (λ (p : b + j < r). inl (p, mod-eq_of_lt p))
    (le_or_lt r (b + j))

turn_base : (r b j k : ℕ) → b < r → j < r → k < r → (b + j) % r ≡ (b + k) % r → j ≡ k
turn_base r b j k hb hj hk e =
    ⊎_elim
    (λ (u : (b + j < r) × ((b + j) % r ≡ b + j)).
    ⊎_elim
    (λ (v : (b + k < r) × ((b + k) % r ≡ b + k)). omega (arith, u.1, v.1))
    (λ (v : (r ≤ b + k) × ((b + k) % r ≡ b + k - r)). omega (arith, u.0, u.1, v.0, v.1))
    (turn_cases r b k hb hk))
    (λ (u : (r ≤ b + j) × ((b + j) % r ≡ b + j - r)).
    ⊎_elim
    (λ (v : (b + k < r) × ((b + k) % r ≡ b + k)). omega (arith, u.0, u.1, v.0, v.1))
    (λ (v : (r ≤ b + k) × ((b + k) % r ≡ b + k - r)). omega (arith, u.0, u.1, v.0, v.1))
    (turn_cases r b k hb hk))
    (turn_cases r b j hb hj)

-- two turns of less than the circle that end at one place are equal
pub turn_once : (r a j k : ℕ) → j < r → k < r → (a + j) % r ≡ (a + k) % r → j ≡ k
turn_once r a j k hj hk e =
    let h : 1 ≤ r = omega arith in
    turn_base r (a % r) j k (mod-lt a h) hj hk (mod-add-mod a r j ∙ e ∙ sym (mod-add-mod a r k))

-- the turn that leads from s to x
abbrev pub since : (S s x : ℕ) → ℕ
since S s x = (x + S - s % S) % S

module _ (S : ℕ) (h : 1 ≤ S) where
  pub since_below : (s x : ℕ) → since S s x < S
  since_below s x = mod-lt (x + S - s % S) h

  pub since_back : (s x : ℕ) → (s + since S s x) % S ≡ x % S
  since_back s x =
      let e : s + (x + S - s % S) ≡ x + (s / S + 1) * S = omega (arith, div-add-mod' s S, mod-lt s h) in
      add-mod-mod s (x + S - s % S) S ∙ ap (λ (n : ℕ). n % S) e ∙ add-mul-mod_self_right x (s / S + 1) S

  pub since_is : (s x d : ℕ) → d < S → (s + d) % S ≡ x % S → since S s x ≡ d
  since_is s x d l e = turn_once S s (since S s x) d (since_below s x) l (since_back s x ∙ sym e)

  -- the same with the difference taken first
  pub since_form : (s x : ℕ) → since S s x ≡ (x + (S - s % S)) % S
  since_form s x =
      let e : x + S - s % S ≡ x + (S - s % S) = omega (arith, mod-lt s h) in
      ap (λ (n : ℕ). n % S) e

  -- j ticks later the turn is j longer
  pub since_later : (s x j : ℕ) → since S s (x + j) ≡ (since S s x + j) % S
  since_later s x j =
      since_is s (x + j) ((since S s x + j) % S) (mod-lt (since S s x + j) h)
      (add-mod-mod s (since S s x + j) S ∙ ap (λ (n : ℕ). n % S) (sum s (since S s x)) ∙ sym (mod-add-mod (s + since S s x) S j) ∙
      ap (λ (n : ℕ). (n + j) % S) (since_back s x) ∙ mod-add-mod x S j)
    where
      sum : (a b : ℕ) → a + (b + j) ≡ a + b + j
      sum a b = omega arith
