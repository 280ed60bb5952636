-- The figures that the number of switches is made of: the stretches, by the whole processors and the idle positions, and the room of their product.
-- Assumes nothing.
use Prim.Native.Nat.{ℕ, ◌+◌, ◌*◌, ◌-◌, ◌^◌, ◌≤◌, ◌<◌}
use mathlib.Core.Path.{◌≡◌}
use mathlib.Core.List.{List}
use native.Mathlib.Nat.{mul-le-mul}
use native.Mathlib.Omega.{arith}
use mir.Syntax.{w64}
use mir.Val.{Fits}
use lib.ListN.{take}
use Rattle.laws.proofs.Choices.{cond_ltb, cond_ltb_not}
use Rattle.reserves.specs.Reserves.{wholes, idle_positions}
use Rattle.reserves.proofs.Starts.{taken_length, wholes_below}
use Rattle.turn.specs.declared.Turn.{Turn}
use Rattle.turn.specs.Stretch.{Laid}
use Rattle.turn.specs.Count.{stretches, amid, switch_count}
use Rattle.turn.proofs.CountLaws.{amid_most, stretches_few}

module _ {turn : Turn} {rs : List ℕ} (laid : Laid turn rs) where
  abbrev S : ℕ
  S = turn.slot

  abbrev servers : List ℕ
  servers = take turn.servers rs

  module _ {whole : ℕ} (e : whole ≡ wholes S servers) where
    -- no more whole processors than servers
    pub whole_few : whole ≤ turn.servers
    whole_few = omega (arith, wholes_below S servers, taken_length laid.slotted)

    -- a stretch for each server on the ring
    pub stretches_full : turn.idle ≡ 0 → turn.servers - whole ≡ stretches S servers
    unfolding stretches
    stretches_full none =
        let k : idle_positions S servers ≤ 0 = omega (arith, laid.idle) in
        omega (arith, cond_ltb_not 1 0 k, taken_length laid.slotted)

    -- and the idle one
    pub stretches_idle : 1 ≤ turn.idle → turn.servers - whole + 1 ≡ stretches S servers
    unfolding stretches
    stretches_idle some =
        let k : 0 < idle_positions S servers = omega (arith, laid.idle) in
        omega (arith, cond_ltb 1 0 k, taken_length laid.slotted)

  module _ {many : ℕ} (e : many ≡ stretches S servers) where
    -- at most one for each of 256 servers, and the idle one
    pub many_small : many ≤ 257
    many_small = omega (arith, stretches_few S servers, taken_length laid.slotted, laid.slotted.few)

    -- r times the stretches, and the processors that start amid one
    pub switches_counted : {some : ℕ} → some ≡ amid S servers turn.ring → turn.ring * many + some ≡ switch_count S servers
    unfolding switch_count
    switches_counted a = rw (e, a, laid.ring)

  -- no more start amid a reserve than there are processors
  pub amid_small : {some : ℕ} → some ≡ amid S servers turn.ring → some ≤ 257
  amid_small a = omega (arith, laid.few, amid_most S servers turn.ring)

-- a product of a number of 32 bits with a small one has room, and a small one beside it
pub product_fits : (a b : ℕ) → a ≤ 2 ^ 32 → b ≤ 257 → Fits w64 (a * b)
product_fits a b h k = record { fits = omega (arith, mul-le-mul h k) }

pub sum_fits : (a b c : ℕ) → a ≤ 2 ^ 32 → b ≤ 257 → c ≤ 257 → Fits w64 (a * b + c)
sum_fits a b c h k l = record { fits = omega (arith, mul-le-mul h k) }
