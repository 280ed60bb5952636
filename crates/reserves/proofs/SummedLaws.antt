-- A pass over the first n of a slice that sums them: what it starts with, the next, and all.
-- Assumes nothing.
use Prim.Native.Nat.{ℕ, suc, ◌+◌, ◌*◌, ◌≤◌, ◌<◌}
use mathlib.Core.Path.{◌≡◌, sym, ap, ◌∙◌}
use mathlib.Core.List.{List, []}
use native.Mathlib.Nat.{le_trans}
use native.Mathlib.Numerals.{add-one}
use native.Mathlib.Omega.{arith}
use lib.ListN.{get_or, take}
use lib.Seq.{length-take-le}
use Rattle.reserves.specs.Slotted.{SlottedFirst}
use Rattle.reserves.specs.Reserves.{ring_ticks, wholes}
use Rattle.reserves.proofs.Starts.{ring_more, ring_same, wholes_more, wholes_same, wholes_below, ring_room}

-- `sum` is what F sums of the first i
pub record Summed (F : List ℕ → ℕ) (rs : List ℕ) (n sum i : ℕ) : Type 0 where
  pub within : i ≤ n
  pub so_far : sum ≡ F (take i rs)

module _ {F : List ℕ → ℕ} {rs : List ℕ} {n : ℕ} where
  -- of none it is nothing
  pub summed_none : F [] ≡ 0 → Summed F rs n 0 0
  summed_none e = record { within = omega arith; so_far = sym e }

  -- the next one adds its term
  summed_next : {sum more i : ℕ} (term : ℕ) → Summed F rs n sum i → i < n → more ≡ sum + term → F (take (suc i) rs) ≡ F (take i rs) + term → Summed F rs n more (i + 1)
  summed_next {sum} {more} {i} term l h e g = record { within = omega arith; so_far = rw (add-one i) (omega (arith, l.so_far)) }

  -- after the last it is that of all
  pub summed_all : {sum i : ℕ} → Summed F rs n sum i → n ≤ i → sum ≡ F (take n rs)
  summed_all {sum} {i} l h =
      let e : i ≡ n = omega (arith, l.within) in
      l.so_far ∙ ap (λ (k : ℕ). F (take k rs)) e

module _ {S : ℕ} {rs : List ℕ} {n : ℕ} (laid : SlottedFirst S rs n) {sum more i : ℕ} where
  pub ticks_more : Summed (ring_ticks S) rs n sum i → i < n → get_or rs i 0 < S → more ≡ sum + get_or rs i 0 → Summed (ring_ticks S) rs n more (i + 1)
  ticks_more l h w e = summed_next (get_or rs i 0) l h e (ring_more S rs i (le_trans h laid.there) w)

  pub ticks_same : Summed (ring_ticks S) rs n sum i → i < n → S ≤ get_or rs i 0 → more ≡ sum → Summed (ring_ticks S) rs n more (i + 1)
  ticks_same l h w e = summed_next 0 l h (omega arith) (omega (arith, ring_same S rs i (le_trans h laid.there) w))

  pub count_more : Summed (wholes S) rs n sum i → i < n → S ≤ get_or rs i 0 → more ≡ sum + 1 → Summed (wholes S) rs n more (i + 1)
  count_more l h w e = summed_next 1 l h e (wholes_more S rs i (le_trans h laid.there) w)

  pub count_same : Summed (wholes S) rs n sum i → i < n → get_or rs i 0 < S → more ≡ sum → Summed (wholes S) rs n more (i + 1)
  count_same l h w e = summed_next 0 l h (omega arith) (omega (arith, wholes_same S rs i (le_trans h laid.there) w))

-- a sum has room for the next
module _ {S : ℕ} {rs : List ℕ} {n : ℕ} (laid : SlottedFirst S rs n) {sum i : ℕ} where
  pub ticks_room : Summed (ring_ticks S) rs n sum i → sum ≤ 256 * S
  ticks_room l = omega (arith, l.so_far, ring_room laid i l.within)

  pub count_room : Summed (wholes S) rs n sum i → sum ≤ 256
  count_room l =
      omega (arith, l.so_far, l.within, laid.few, wholes_below S (take i rs), length-take-le i rs (le_trans l.within laid.there))
