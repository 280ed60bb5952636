-- What a turn that is laid says of its ring: its reserves are slotted, and no sum of its ticks wraps.
-- Assumes nothing.
use Prim.Native.Nat.{ℕ, ◌*◌, ◌-◌, ◌≤◌, ◌<◌, ◌^◌}
use mathlib.Core.Path.{◌≡◌, ap}
use mathlib.Core.List.{List}
use native.Mathlib.Nat.{le_trans}
use native.Mathlib.Omega.{arith}
use lib.ListN.{take}
use lib.Seq.{get_or-take}
use Rattle.reserves.specs.Slotted.{SlottedFirst}
use Rattle.reserves.specs.Reserves.{ring_processors, ring_length}
use Rattle.reserves.proofs.Starts.{taken_length, length_room}
use Rattle.ring.specs.declared.cover.Stand.{Stand}
use Rattle.ring.specs.Phase.{phase}
use Rattle.ring.specs.Cover.{stand_at}
use Rattle.ring.specs.Who.{who_of}
use Rattle.ring.proofs.PhaseLaws.{phase_below}
use Rattle.ring.proofs.WhoLaws.{who_ring}
use Rattle.ring_claims.specs.Slotted.{Slotted}
use Rattle.ring_claims.proofs.ServeLaws.{stand_steps}
use Rattle.turn.specs.declared.Turn.{Turn}
use Rattle.turn.specs.Stretch.{Laid}

-- the first reserves of a slice, as a list of their own
pub slotted_taken : {S : ℕ} {rs : List ℕ} {n : ℕ} → SlottedFirst S rs n → Slotted S (take n rs)
slotted_taken {S} {rs} {n} first = record {
  slot_some = first.slot_some;
  some = λ i l. let h : i < n = omega (arith, taken_length first) in rw (get_or-take n rs i 0 h) (first.some i h);
  within = λ i l. let h : i < n = omega (arith, taken_length first) in rw (get_or-take n rs i 0 h) (first.within i h);
}

-- what is left to a ring processor ends within a turn
pub left_within : (S : ℕ) (rs : List ℕ) (p x : ℕ) → 1 ≤ S → 1 ≤ p → p ≤ ring_processors S rs → (who_of S rs p (record { 0 = x })).left ≤ ring_length S rs
left_within S rs p x h some l =
    let at = phase S (ring_processors S rs) p (record { 0 = x }) in
    let steps = stand_steps S rs at h (phase_below S (ring_processors S rs) p (record { 0 = x }) h (le_trans some l)) in
    let left : (who_of S rs p (record { 0 = x })).left ≡ (stand_at S rs at).left = ap (λ (s : Stand). s.left) (who_ring S rs p (record { 0 = x }) l) in
    omega (arith, left, steps.some, steps.within ((stand_at S rs at).left - 1) (omega (arith, steps.some)))

module _ {turn : Turn} {rs : List ℕ} (laid : Laid turn rs) where
  pub laid_slotted : Slotted turn.slot (take turn.servers rs)
  laid_slotted = slotted_taken laid.slotted

  -- the ring's length, as it is computed
  pub laid_length : turn.ring * turn.slot ≡ ring_length turn.slot (take turn.servers rs)
  laid_length = ap (λ (r : ℕ). r * turn.slot) laid.ring

  -- is far from where a sum wraps
  pub laid_room : turn.ring * turn.slot < 2 ^ 41
  laid_room = rw laid_length (length_room laid.slotted)
