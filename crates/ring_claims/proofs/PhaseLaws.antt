-- The phase rule: at each tick the ring processors stand on the positions of one residue, one on each.
-- Assumes nothing.
use Prim.Native.Nat.{ℕ, ◌+◌, ◌*◌, ◌-◌, ◌/◌, ◌%◌, ◌≤◌, ◌<◌}
use mathlib.Core.Path.{◌≡◌, sym, ap, ◌∙◌}
use native.Mathlib.Nat.{mod-lt, mod-eq_of_lt, mod-add-mod, add-mul-mod_self_right, add-mul-div_right, div-add-mod', div-lt_iff_lt-mul}
use native.Mathlib.Omega.{arith}
use lib.Arith.{digits_div, digits_mod, mod-mul}
use Rattle.ring.specs.declared.clock.Tick.{Tick}
use Rattle.ring.specs.Phase.{phase}
use Rattle.ring_claims.specs.Held.{later}
use Rattle.ring_claims.proofs.TurnLaws.{since, since_below, since_back, turn_once}

-- j ticks later a processor is j positions on, and from the ring's end at position 0
pub phase_on : (S r p j : ℕ) (x : Tick) → phase S r p (later x j) ≡ record { 0 = ((phase S r p x).0 + j) % (r * S) }
unfolding phase
phase_on S r p j x = rw (sum x.0 ((p - 1) * S), ← (mod-add-mod (x.0 + (p - 1) * S) (r * S) j))
  where
    sum : (a b : ℕ) → a + j + b ≡ a + b + j
    sum a b = omega arith

-- until the ring's end it moves one position a tick
pub phase_later : (S r p j : ℕ) (x : Tick) → (phase S r p x).0 + j < r * S → phase S r p (later x j) ≡ record { 0 = (phase S r p x).0 + j }
phase_later S r p j x l = phase_on S r p j x ∙ ap (λ (n : ℕ). record { 0 = n }) (mod-eq_of_lt l)

module _ (S r : ℕ) (h : 1 ≤ S) where
  -- a position by its slot of the ring and its place in the slot
  phase_slots : (p : ℕ) (x : Tick) → 1 ≤ r → (phase S r p x).0 ≡ (x.0 / S + (p - 1)) % r * S + x.0 % S
  unfolding phase
  phase_slots p x g =
      mod-mul (x.0 + (p - 1) * S) g h ∙ rw (add-mul-div_right x.0 (p - 1) h, add-mul-mod_self_right x.0 (p - 1) S)

  -- a position agrees with the tick modulo the slot
  pub phase_agrees : (p : ℕ) (x : Tick) → 1 ≤ r → (phase S r p x).0 % S ≡ x.0 % S
  phase_agrees p x g =
      ap (λ (n : ℕ). n % S) (phase_slots p x g) ∙ digits_mod ((x.0 / S + (p - 1)) % r) (mod-lt x.0 h)

  phase_slot : (p : ℕ) (x : Tick) → 1 ≤ r → (phase S r p x).0 / S ≡ (x.0 / S + (p - 1)) % r
  phase_slot p x g =
      ap (λ (n : ℕ). n / S) (phase_slots p x g) ∙ digits_div ((x.0 / S + (p - 1)) % r) (mod-lt x.0 h)

  -- no two processors stand on one position
  pub phase_once : (p p' : ℕ) (x : Tick) → 1 ≤ p → p ≤ r → 1 ≤ p' → p' ≤ r → (phase S r p x).0 ≡ (phase S r p' x).0 → p ≡ p'
  phase_once p p' x a b a' b' e =
      let g : 1 ≤ r = omega arith in
      let t : p - 1 ≡ p' - 1 =
      turn_once r (x.0 / S) (p - 1) (p' - 1) (omega arith) (omega arith)
      (sym (phase_slot p x g) ∙ ap (λ (n : ℕ). n / S) e ∙ phase_slot p' x g)
      in
      omega arith

  -- each position that agrees with the tick has its processor
  pub phase_reached : (π : ℕ) (x : Tick) → π < r * S → π % S ≡ x.0 % S → (p : ℕ) × (1 ≤ p) × (p ≤ r) × ((phase S r p x).0 ≡ π)
  phase_reached π x l e =
      let k : π / S < r = (div-lt_iff_lt-mul h).1 l in
      let g : 1 ≤ r = omega arith in
      let j : ℕ = since r (x.0 / S) (π / S) in
      let b : j < r = since_below r g (x.0 / S) (π / S) in
      let c : j + 1 - 1 ≡ j = omega arith in
      let t : (x.0 / S + (j + 1 - 1)) % r ≡ π / S =
      ap (λ (i : ℕ). (x.0 / S + i) % r) c ∙ since_back r g (x.0 / S) (π / S) ∙ mod-eq_of_lt k
      in (
        j + 1,
        omega arith,
        omega arith,
        phase_slots (j + 1) x g ∙ rw (t, ← e) (div-add-mod' π S),
      )
