-- Where a server stands, by the test of its reserve; places from 0 and servers from 1.
-- Assumes nothing.
use Prim.Native.Nat.{ℕ, zero, suc, ◌-◌, ◌≤◌, ◌<◌}
use mathlib.Core.Path.{◌≡◌, sym, ap, ◌∙◌}
use mathlib.Core.Bool.{Bool, cond}
use mathlib.Core.List.{List}
use native.Mathlib.Omega.{arith}
use borrow.Author.Tests.{lt-ltb, le-ltb}
use lib.Dec.{ltb}
use lib.ListN.{take, get_or}
use lib.Seq.{get_or-take}
use Rattle.reserves.specs.Reserves.{reserve_of, start_of}
use Rattle.layout.specs.Layout.{ring_start}

-- the reserve of server q stands at place q − 1, as does its cache cost
pub reserve_place : (rs : List ℕ) (n q : ℕ) → 1 ≤ q → q ≤ n → reserve_of (take n rs) q ≡ get_or rs (q - 1) 0
reserve_place rs n zero h l = absurd (omega arith)
reserve_place rs n (suc q) h l =
    get_or-take n rs q 0 l ∙ ap (λ (k : ℕ). get_or rs k 0) (let e : q ≡ suc q - 1 = omega arith in e)

module _ (S : ℕ) (rs : List ℕ) (n q : ℕ) (h : 1 ≤ q) (l : q ≤ n) where
  pub start_ring : get_or rs (q - 1) 0 < S → start_of S (take n rs) q ≡ ring_start S (take n rs) q
  start_ring d =
      sym (ap (λ (b : Bool). cond b (start_of S (take n rs) q) 0) (ap (λ (R : ℕ). ltb R S) (reserve_place rs n q h l) ∙ lt-ltb (get_or rs (q - 1) 0) S d))

  -- a server with a whole processor stands nowhere
  pub start_whole : S ≤ get_or rs (q - 1) 0 → 0 ≡ ring_start S (take n rs) q
  start_whole d =
      sym (ap (λ (b : Bool). cond b (start_of S (take n rs) q) 0) (ap (λ (R : ℕ). ltb R S) (reserve_place rs n q h l) ∙ le-ltb (get_or rs (q - 1) 0) S d))
