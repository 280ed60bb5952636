-- Laws of the last length with a supply: at it the supply is v, past it more, and a length with more lies past it.
-- Assumes nothing.
use Prim.Native.Nat.{ℕ, ◌+◌, ◌*◌, ◌-◌, ◌/◌, ◌%◌, ◌≤◌, ◌<◌}
use native.Mathlib.Omega.{arith}
use native.Mathlib.Nat.{div-add-mod', mod-lt, mul-le-mul_right}
use native.Mathlib.Decide.{dec_lt}
use lib.Arith.{digits_div, digits_mod}
use mathlib.Core.Path.{◌≡◌, ap}
use mathlib.Core.Logic.{⊎_elim}
use Rattle.laws.proofs.Orders.{le_or_lt}
use Rattle.demand.specs.Supply.{supply_past, last_with}
use Rattle.demand.proofs.Supply.{supply_mono, supply_within}

-- at that length the supply is v
pub supply_at_last : (S f v : ℕ) → f < S → supply_past S f (last_with S f v) ≡ v
unfolding supply_past last_with
supply_at_last S f v f<S =
    let j<u : v % (S - f) < S - f = mod-lt v (omega arith) in
    let x<S : f + v % (S - f) < S = omega arith in
    rw (digits_div (v / (S - f)) x<S, digits_mod (v / (S - f)) x<S) (omega (arith, div-add-mod' v (S - f)))

-- which is no more than the length
pub last_reaches : (S f v : ℕ) → f < S → v ≤ last_with S f v
last_reaches S f v f<S = omega (arith, supply_at_last S f v f<S, supply_within S f (last_with S f v))

-- past it the supply exceeds v: the same over plain digits
past_digits : (S f u k j q x : ℕ) → f + u ≡ S → j < u → x < S → k * S + (f + j) < q * S + x → k * u + j < q * u + (x - f)
past_digits S f u k j q x e j<u x<S h = by_order (dec_lt k q) (dec_lt q k)
  where
    by_order : Dec (k < q) → Dec (q < k) → k * u + j < q * u + (x - f)
    by_order (yes a) _ = omega (arith, mul-le-mul_right u a)
    by_order (no a) (yes b) = absurd (omega (arith, mul-le-mul_right S b))
    by_order (no a) (no b) =
        let k≡q : k ≡ q = omega arith in
        omega (arith, ap (λ (y : ℕ). y * u) k≡q, ap (λ (y : ℕ). y * S) k≡q)

pub past_last : (S f v t : ℕ) → f < S → last_with S f v < t → v < supply_past S f t
unfolding supply_past last_with
past_last S f v t f<S h =
    let u = S - f in
    let d : v / u * S + (f + v % u) < t / S * S + t % S = omega (arith, div-add-mod' t S) in
    let r : v / u * u + v % u < t / S * u + (t % S - f) = past_digits S f u (v / u) (v % u) (t / S) (t % S) (omega arith) (mod-lt v (omega arith)) (mod-lt t (omega arith)) d in
    omega (arith, div-add-mod' v u)

-- a length with more supply lies past it
pub last_before : (S f v t : ℕ) → f < S → v < supply_past S f t → last_with S f v < t
last_before S f v t f<S h =
    ⊎_elim
    (λ (p : t ≤ last_with S f v). absurd (omega (arith, supply_at_last S f v f<S, supply_mono S f (omega arith) p)))
    (λ (q : last_with S f v < t). q)
    (le_or_lt t (last_with S f v))
