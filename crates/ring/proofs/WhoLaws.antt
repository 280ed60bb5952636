-- Who runs, by the two kinds of processor, and what the functions that ask it hand on.
-- Assumes nothing.
use Prim.Native.Nat.{ℕ, ◌*◌, ◌-◌, ◌%◌, ◌≤◌, ◌<◌, ◌^◌}
use mathlib.Core.Path.{◌≡◌, sym, ap, ◌∙◌}
use mathlib.Core.List.{List}
use mathlib.Core.Logic.{⊎_elim}
use native.Mathlib.Nat.{le_trans, zero-mod, sub-zero}
use native.Mathlib.Omega.{arith}
use borrow.Author.Tests.{le-leb, lt-leb}
use lib.ListN.{take}
use Rattle.laws.proofs.Orders.{le_or_lt}
use Rattle.ring.specs.declared.clock.Tick.{Tick}
use Rattle.ring.specs.declared.clock.Position.{Position}
use Rattle.ring.specs.declared.cover.Stand.{Stand}
use Rattle.reserves.specs.Slotted.{SlottedFirst}
use Rattle.reserves.specs.Reserves.{ring_processors, ring_length}
use Rattle.ring.specs.Phase.{phase}
use Rattle.ring.specs.Cover.{stand_at}
use Rattle.reserves.specs.Whole.{whole_server}
use Rattle.ring.specs.Who.{who_of, first_reserve}
use Rattle.reserves.proofs.Starts.{length_room}
use Rattle.ring.proofs.PhaseLaws.{phase_below, phase_first}

module _ (S : ℕ) (rs : List ℕ) (p : ℕ) where
  abbrev r : ℕ
  r = ring_processors S rs

  pub who_ring : (x : Tick) → p ≤ r → who_of S rs p x ≡ stand_at S rs (phase S r p x)
  unfolding who_of
  who_ring x h = rw (le-leb p r h)

  pub who_whole : (x : Tick) → r < p → who_of S rs p x ≡ record { server = whole_server S rs (p - r - 1); left = S - x.0 % S }
  unfolding who_of
  who_whole x h = rw (lt-leb p r h)

  pub first_ring : p ≤ r → first_reserve S rs p ≡ stand_at S rs (record { 0 = (p - 1) * S })
  unfolding first_reserve
  first_ring h = rw (le-leb p r h)

  pub first_whole : r < p → first_reserve S rs p ≡ record { server = whole_server S rs (p - r - 1); left = S }
  unfolding first_reserve
  first_whole h = rw (lt-leb p r h)

  -- the first reserve is what runs at tick 0
  pub first_who : 1 ≤ S → 1 ≤ p → first_reserve S rs p ≡ who_of S rs p (record { 0 = 0 })
  first_who h some =
      ⊎_elim
      (λ (l : p ≤ r).
      first_ring l ∙ ap (stand_at S rs) (sym (phase_first S r p h some l)) ∙
      sym (who_ring (record { 0 = 0 }) l))
      (λ (l : r < p).
      first_whole l ∙ sym (who_whole (record { 0 = 0 }) l ∙ rw (zero-mod S, sub-zero S)))
      (le_or_lt p r)

-- ---- the first n of a slice, with r as it was computed

module _ {S : ℕ} {rs : List ℕ} {n : ℕ} (laid : SlottedFirst S rs n) {r : ℕ} (e : r ≡ ring_processors S (take n rs)) {p : ℕ} where
  -- what the phase rule asks of a ring processor
  pub phase_asks : 1 ≤ p → p ≤ r → (1 ≤ S) × (1 ≤ p) × (p ≤ r) × (r * S < 2 ^ 48)
  phase_asks h l =
      let whole : r * S ≡ ring_length S (take n rs) = ap (λ (k : ℕ). k * S) e in
      (laid.slot_some, h, l, omega (arith, length_room laid))

  pub phase_lands : (at : Position) (x : Tick) → 1 ≤ p → p ≤ r → at ≡ phase S r p x → at.0 < ring_length S (take n rs)
  phase_lands at x h l q =
      let whole : r * S ≡ ring_length S (take n rs) = ap (λ (k : ℕ). k * S) e in
      let same : at.0 ≡ (phase S r p x).0 = ap (λ (a : Position). a.0) q in
      omega (arith, phase_below S r p x laid.slot_some (le_trans h l))

  pub who_lands : (at : Position) (x : Tick) → p ≤ r → at ≡ phase S r p x → stand_at S (take n rs) at ≡ who_of S (take n rs) p x
  who_lands at x l q =
      ap (stand_at S (take n rs)) (q ∙ ap (λ (k : ℕ). phase S k p x) e) ∙
      sym (who_ring S (take n rs) p x (omega arith))

  pub who_own : (server : ℕ) (x : Tick) → r < p → server ≡ whole_server S (take n rs) (p - r - 1) →
      ◌≡◌ {A = Stand} (record { server = server; left = S - x.0 % S }) (who_of S (take n rs) p x)
  who_own server x l q = rw (q, e) (sym (who_whole S (take n rs) p x (omega arith)))

-- what runs at tick 0 is the first reserve
pub first_told : {S : ℕ} {rs : List ℕ} {n p : ℕ} {s : Stand} → SlottedFirst S rs n → 1 ≤ p → s ≡ who_of S (take n rs) p (record { 0 = 0 }) → s ≡ first_reserve S (take n rs) p
first_told {S} {rs} {n} {p} laid some e = e ∙ sym (first_who S (take n rs) p laid.slot_some some)
