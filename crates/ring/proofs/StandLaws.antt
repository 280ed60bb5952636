-- What stands at a position: the server that covers it with the rest of its reserve, or the idle stretch.
-- Assumes nothing.
use Prim.Native.Nat.{ℕ, suc, ◌+◌, ◌*◌, ◌-◌, ◌≤◌, ◌<◌}
use mathlib.Core.Path.{◌≡◌, refl, sym, ap, ◌∙◌}
use mathlib.Core.List.{List}
use native.Mathlib.Numerals.{add-one}
use native.Mathlib.Omega.{arith}
use lib.ListN.{length, get_or, take}
use lib.Seq.{take-take, get_or-take}
use Rattle.ring.specs.declared.clock.Position.{Position}
use Rattle.ring.specs.declared.cover.Stand.{Stand}
use Rattle.reserves.specs.Slotted.{SlottedFirst}
use Rattle.reserves.specs.Reserves.{reserve_of, ring_ticks, start_of, ring_processors, ring_length}
use Rattle.ring.specs.Cover.{coverer_up_to, left_from, stand_at}
use Rattle.ring.proofs.CoverLaws.{Covers, covers_there, coverer_is, coverer_none}

module _ (S : ℕ) (rs : List ℕ) (at : Position) where
  stand_by : (q : ℕ) → coverer_up_to S rs at (length rs) ≡ q → stand_at S rs at ≡ record { server = q; left = left_from S rs at q }
  unfolding stand_at
  stand_by q e = rw e

  pub stand_server : (stand_at S rs at).server ≡ coverer_up_to S rs at (length rs)
  unfolding stand_at
  stand_server = refl

  -- where server j + 1 covers the position, it stands there to its reserve's end
  pub stand_covered : (j : ℕ) → Covers S rs (suc j) at.0 →
      stand_at S rs at ≡ record { server = suc j; left = start_of S rs (suc j) + reserve_of rs (suc j) - at.0 }
  stand_covered j c =
      stand_by (suc j) (coverer_is S rs at (length rs) (suc j) (omega arith) (covers_there S rs j at.0 c) c)

  -- past the reserves it is idle to the ring's end
  pub stand_idle : ring_ticks S rs ≤ at.0 → stand_at S rs at ≡ record { server = 0; left = ring_length S rs - at.0 }
  stand_idle l = stand_by 0 (coverer_none S rs at (length rs) l)

-- the same of the first n of a slice, as a pass over it finds them
module _ {S : ℕ} {rs : List ℕ} {n : ℕ} (laid : SlottedFirst S rs n) (at : Position) where
  pub stand_found : (i end : ℕ) → i < n → get_or rs i 0 < S → end ≡ ring_ticks S (take i rs) → end ≤ at.0 → at.0 < end + get_or rs i 0 →
      ◌≡◌ {A = Stand} (record { server = i + 1; left = end + get_or rs i 0 - at.0 }) (stand_at S (take n rs) at)
  stand_found i end h l e from before =
      let er : get_or (take n rs) i 0 ≡ get_or rs i 0 = get_or-take n rs i 0 h in
      let es : ring_ticks S (take i (take n rs)) ≡ end = ap (ring_ticks S) (take-take i n rs (omega arith)) ∙ sym e in
      let c : Covers S (take n rs) (suc i) at.0 = record { ring = omega arith; from = omega arith; before = omega arith } in
      sym (stand_covered S (take n rs) at i c ∙ rw (er, es, add-one))

  pub stand_past : (r : ℕ) → r ≡ ring_processors S (take n rs) → ring_ticks S (take n rs) ≤ at.0 →
      ◌≡◌ {A = Stand} (record { server = 0; left = r * S - at.0 }) (stand_at S (take n rs) at)
  stand_past r e l = rw e (sym (stand_idle S (take n rs) at l))
