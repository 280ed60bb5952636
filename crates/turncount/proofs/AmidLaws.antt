-- The ring processors that start amid a reserve, counted one after the other: what the count starts with, the next, and all.
-- Assumes nothing.
use Prim.Native.Nat.{ℕ, suc, ◌+◌, ◌-◌, ◌≤◌, ◌<◌}
use mathlib.Core.Path.{◌≡◌, sym, ap, ◌∙◌}
use mathlib.Core.List.{List}
use mathlib.Core.Bool.{cond}
use native.Mathlib.Numerals.{sub-one}
use native.Mathlib.Omega.{arith}
use lib.Dec.{ltb}
use lib.ListN.{get_or, take}
use lib.Seq.{get_or-take}
use Rattle.laws.proofs.Choices.{cond_ltb, cond_ltb_not}
use Rattle.reserves.specs.Reserves.{reserve_of}
use Rattle.reserves.proofs.Starts.{taken_length}
use Rattle.ring.specs.declared.cover.Stand.{Stand}
use Rattle.ring.specs.Who.{first_reserve}
use Rattle.ring_claims.proofs.FirstLaws.{first_reserve_lem}
use Rattle.turn.specs.declared.Turn.{Turn}
use Rattle.turn.specs.Stretch.{Laid}
use Rattle.turn.specs.Count.{amid}
use Rattle.turn.proofs.EndLaws.{amid_at}
use Rattle.turn.proofs.CountLaws.{amid_zero, amid_suc, amid_most}

abbrev laid_of : Turn → List ℕ → List ℕ
laid_of turn rs = take turn.servers rs

-- `count` of the processors before p start amid a reserve
pub record Counted (turn : Turn) (rs : List ℕ) (count p : ℕ) : Type 0 where
  pub some : 1 ≤ p
  pub within : p ≤ turn.ring + 1
  pub so_far : count ≡ amid turn.slot (laid_of turn rs) (p - 1)

module _ {turn : Turn} {rs : List ℕ} where
  -- before the first it is nothing
  pub counted_none : Counted turn rs 0 1
  counted_none = record { some = omega arith; within = omega arith; so_far = sym (amid_zero turn.slot (laid_of turn rs)) }

  -- no more than there are processors
  pub counted_room : {count p : ℕ} → Counted turn rs count p → count ≤ p
  counted_room {count} {p} l = omega (arith, l.so_far, amid_most turn.slot (laid_of turn rs) (p - 1))

  -- behind the last it is that of all
  pub counted_all_lem : {count p : ℕ} → Counted turn rs count p → turn.ring < p → count ≡ amid turn.slot (laid_of turn rs) turn.ring
  counted_all_lem {count} {p} l h =
      let e : p - 1 ≡ turn.ring = omega (arith, l.within) in
      l.so_far ∙ ap (amid turn.slot (laid_of turn rs)) e

  module _ (laid : Laid turn rs) {p : ℕ} {s : Stand} (some : 1 ≤ p) (h : p ≤ turn.ring) (e : s ≡ first_reserve turn.slot (laid_of turn rs) p) where
    -- the server of a first reserve is there
    pub first_there : (1 ≤ s.server) × (s.server ≤ turn.servers)
    first_there =
        let f = (first_reserve_lem turn.slot (laid_of turn rs) p laid.slotted.slot_some some (omega (arith, laid.ring))).server in
        let q : s.server ≡ (first_reserve turn.slot (laid_of turn rs) p).server = ap (λ (t : Stand). t.server) e in
        (omega (arith, f.some), omega (arith, f.there, taken_length laid.slotted))

    -- and its reserve stands in the slice
    reserve_there : reserve_of (laid_of turn rs) s.server ≡ get_or rs (s.server - 1) 0
    reserve_there =
        ap (λ (i : ℕ). get_or (laid_of turn rs) i 0) (sym (sub-one s.server)) ∙
        get_or-take turn.servers rs (s.server - 1) 0 (omega (arith, first_there.0, first_there.1))

    -- whether the processor starts amid it is what the test tells
    amid_by : (k : ℕ) → cond (ltb s.left (get_or rs (s.server - 1) 0)) 1 0 ≡ k → amid_at turn.slot (laid_of turn rs) p ≡ k
    amid_by k a =
        ap (λ (t : Stand). cond (ltb t.left (reserve_of (laid_of turn rs) t.server)) 1 0) (sym e) ∙
        ap (λ (R : ℕ). cond (ltb s.left R) 1 0) reserve_there ∙ a

    module _ {count more : ℕ} (l : Counted turn rs count p) where
      next : (k : ℕ) → more ≡ count + k → amid_at turn.slot (laid_of turn rs) p ≡ k → Counted turn rs more (p + 1)
      next k m a =
          let here : suc (p - 1) ≡ p = omega arith in
          let on : suc (p - 1) ≡ p + 1 - 1 = omega arith in
          let added : count + k ≡ amid turn.slot (laid_of turn rs) (suc (p - 1)) =
          omega (arith, l.so_far, a, amid_suc turn.slot (laid_of turn rs) (p - 1), ap (amid_at turn.slot (laid_of turn rs)) here)
          in
          record {
            some = omega arith;
            within = omega arith;
            so_far = m ∙ added ∙ ap (amid turn.slot (laid_of turn rs)) on;
          }

      -- less is left than the reserve has: one more
      pub counted_more : s.left < get_or rs (s.server - 1) 0 → more ≡ count + 1 → Counted turn rs more (p + 1)
      counted_more b m = next 1 m (amid_by 1 (cond_ltb 1 0 b))

      -- all of it is left
      pub counted_same : get_or rs (s.server - 1) 0 ≤ s.left → more ≡ count → Counted turn rs more (p + 1)
      counted_same b m = next 0 (omega arith) (amid_by 0 (cond_ltb_not 1 0 b))
