-- The processors that reserves need where none is above that of the same number in another plan: a whole processor counts as a slot's ticks.
-- Assumes nothing.
use Prim.Native.Nat.{ℕ, suc, ◌+◌, ◌*◌, ◌-◌, ◌≤◌, ◌<◌}
use native.Mathlib.Omega.{arith}
use native.Mathlib.Nat.{le_refl, mul-le-mul_right}
use mathlib.Core.Path.{◌≡◌}
use mathlib.Core.List.{List, [], ◌∷◌}
use mathlib.Core.Logic.{⊎_elim}
use lib.ListN.{length, get_or}
use Rattle.laws.proofs.Orders.{le_or_lt}
use Rattle.laws.proofs.Choices.{cond_ltb, cond_ltb_not}
use Rattle.wholes.proofs.CeilingLaws.{ceiling_least}
use Rattle.reserves.specs.Reserves.{ring_ticks, wholes, processors_of}
use Rattle.reserves.proofs.Starts.{ring_cons, wholes_cons}

-- the ticks of a slot that reserves take, where a whole processor is all of it
abbrev ticks : (S : ℕ) → List ℕ → ℕ
ticks S rs = ring_ticks S rs + wholes S rs * S

ticks_cons : (S R : ℕ) (rs : List ℕ) → R ≤ S → ticks S (R ∷ rs) ≡ R + ticks S rs
ticks_cons S R rs h =
    ⊎_elim
    (λ (whole : S ≤ R).
    let ring : ring_ticks S (R ∷ rs) ≡ ring_ticks S rs = omega (arith, ring_cons S R rs, cond_ltb_not {a = R} {b = S} R 0 whole) in
    let one : wholes S (R ∷ rs) ≡ 1 + wholes S rs = omega (arith, wholes_cons S R rs, cond_ltb_not {a = R} {b = S} 0 1 whole) in
    rw (ring, one) (omega arith))
    (λ (part : R < S).
    let ring : ring_ticks S (R ∷ rs) ≡ R + ring_ticks S rs = omega (arith, ring_cons S R rs, cond_ltb {a = R} {b = S} R 0 part) in
    let none : wholes S (R ∷ rs) ≡ wholes S rs = omega (arith, wholes_cons S R rs, cond_ltb {a = R} {b = S} 0 1 part) in
    rw (ring, none) (omega arith))
    (le_or_lt S R)

-- as many reserves, none above a slot, and none above the other of its number
pub record NoneAbove (S : ℕ) (rs ks : List ℕ) : Type 0 where
  pub many : length ks ≡ length rs
  pub within : (i : ℕ) → i < length rs → get_or rs i 0 ≤ S
  pub below : (i : ℕ) → i < length rs → get_or ks i 0 ≤ get_or rs i 0

ticks_fall : (S : ℕ) (rs ks : List ℕ) → NoneAbove S rs ks → ticks S ks ≤ ticks S rs
ticks_fall S [] [] n = le_refl (ticks S [])
ticks_fall S [] (K ∷ ks) n = absurd (omega (arith, n.many))
ticks_fall S (R ∷ rs) [] n = absurd (omega (arith, n.many))
ticks_fall S (R ∷ rs) (K ∷ ks) n =
    let within : R ≤ S = n.within 0 (omega arith) in
    let below : K ≤ R = n.below 0 (omega arith) in
    let rest : NoneAbove S rs ks = record { many = omega (arith, n.many); within = λ i h. n.within (suc i) (omega arith); below = λ i h. n.below (suc i) (omega arith) } in
    omega (arith, ticks_cons S R rs within, ticks_cons S K ks (omega arith), ticks_fall S rs ks rest)

-- c processors on the ring and w whole ones, where p have room for all
fewer : (S a w p : ℕ) → 1 ≤ S → a + w * S ≤ p * S → (w ≤ p) × (a ≤ (p - w) * S)
fewer S a w p some h =
    ⊎_elim
    (λ (le : w ≤ p).
    let j = p - w in
    let e : p ≡ j + w = omega arith in
    (le, split j (rw e at h)))
    (λ (lt : p < w). absurd (omega (arith, mul-le-mul_right S lt)))
    (le_or_lt w p)
  where
    split : (j : ℕ) → a + w * S ≤ (j + w) * S → a ≤ j * S
    split j h = omega arith

pub processors_fall : (S : ℕ) (rs ks : List ℕ) → 1 ≤ S → NoneAbove S rs ks → processors_of S ks ≤ processors_of S rs
processors_fall S rs ks some n =
    let covers = (ceiling_least (ring_ticks S rs) S some).covers in
    let p = processors_of S rs in
    let room = fewer S (ring_ticks S ks) (wholes S ks) p some (omega (arith, covers, ticks_fall S rs ks n)) in
    omega (arith, (ceiling_least (ring_ticks S ks) S some).least (p - wholes S ks) room.1, room.0)
