-- The phase rule: a position is on the ring, and where each processor is at tick 0.
-- Assumes nothing.
use Prim.Native.Nat.{ℕ, ◌+◌, ◌*◌, ◌-◌, ◌≤◌, ◌<◌}
use mathlib.Core.Path.{◌≡◌}
use native.Mathlib.Nat.{one-le-mul, mod-lt, mod-eq_of_lt, zero-add, mul-le-mul_right}
use native.Mathlib.Omega.{arith}
use Rattle.ring.specs.declared.clock.Tick.{Tick}
use Rattle.ring.specs.Phase.{phase}

-- a position is on the ring
pub phase_below : (S r p : ℕ) (x : Tick) → 1 ≤ S → 1 ≤ r → (phase S r p x).0 < r * S
unfolding phase
phase_below S r p x h g = mod-lt (x.0 + (p - 1) * S) (one-le-mul g h)

-- at tick 0 processor p is at (p − 1)·S
pub phase_first : (S r p : ℕ) → 1 ≤ S → 1 ≤ p → p ≤ r → phase S r p (record { 0 = 0 }) ≡ record { 0 = (p - 1) * S }
unfolding phase
phase_first S r p h g l = rw (zero-add ((p - 1) * S), mod-eq_of_lt below)
  where
    below : (p - 1) * S < r * S
    below =
        let e : (p - 1 + 1) * S ≤ r * S = mul-le-mul_right S (omega arith) in
        omega arith
