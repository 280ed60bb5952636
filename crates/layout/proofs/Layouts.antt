-- The sums of a layout: no more processors than servers, idle positions, and the plan put together from its parts.
-- Assumes nothing.
use Prim.Native.Nat.{ℕ, ◌+◌, ◌*◌, ◌-◌, ◌^◌, ◌≤◌, ◌<◌}
use mathlib.Core.Path.{◌≡◌, sym, ap, ◌∙◌}
use mathlib.Core.Logic.{⊎_elim}
use mathlib.Core.List.{List, [], ◌∷◌}
use native.Mathlib.Omega.{arith}
use borrow.Author.Tests.{lt-ltb, le-ltb}
use lib.ListN.{length, take}
use Rattle.laws.proofs.Orders.{le_or_lt}
use Rattle.wholes.proofs.CeilingLaws.{ceiling_least}
use Rattle.places.specs.Padded.{pad_with, up_to}
use Rattle.sizing.specs.declared.Servers.{Servers}
use Rattle.reserves.specs.Slotted.{SlottedFirst}
use Rattle.reserves.specs.Reserves.{ring_ticks, wholes, ring_processors, processors_of}
use Rattle.ring.specs.Who.{first_reserve}
use Rattle.reserves.proofs.Starts.{wholes_below, ring_holds, taken_length, length_room}
use Rattle.plan.specs.declared.plan.Plan.{Plan}
use Rattle.ring.specs.declared.cover.Stand.{Stand}
use Rattle.plan.specs.declared.server.Server.{Server}
use Rattle.plan.specs.Plan.{zero_server, zero_stand}
use Rattle.layout.specs.Layout.{server_of, laid_out}
use Rattle.layout.specs.Layable.{Layable}

-- reserves and whole processors together take at most a slot a server
ring_and_whole : (S : ℕ) (rs : List ℕ) → ring_ticks S rs + wholes S rs * S ≤ length rs * S
unfolding ring_ticks wholes
ring_and_whole S [] = omega arith
ring_and_whole S (R ∷ Rs) =
    ⊎_elim
    (λ (p : S ≤ R). rw (le-ltb R S p) (omega (arith, ring_and_whole S Rs)))
    (λ (p : R < S). rw (lt-ltb R S p) (omega (arith, ring_and_whole S Rs)))
    (le_or_lt S R)

-- no more processors than servers
pub processors_few : (S : ℕ) (rs : List ℕ) → 1 ≤ S → processors_of S rs ≤ length rs
processors_few S rs h =
    let k = length rs - wholes S rs in
    let e : length rs - wholes S rs + wholes S rs ≡ length rs = omega (arith, wholes_below S rs) in
    let t : ring_ticks S rs ≤ (length rs - wholes S rs) * S = omega (arith, ring_and_whole S rs, ap (λ (n : ℕ). n * S) e) in
    omega (arith, e, (ceiling_least (ring_ticks S rs) S h).least (length rs - wholes S rs) t)

module _ {S n : ℕ} {rs : List ℕ} (laid : SlottedFirst S rs n) {r : ℕ} (e : r ≡ ring_processors S (take n rs)) where
  -- the ring's length has room
  pub ring_fits : r * S < 2 ^ 41
  ring_fits = rw e (length_room laid)

  -- the reserves fit into the ring
  pub ring_covers : {t : ℕ} → t ≡ ring_ticks S (take n rs) → t ≤ r * S
  ring_covers p = rw (e, p) (ring_holds S (take n rs) laid.slot_some)

  -- the processors are no more than the servers
  pub sum_few : {w : ℕ} → w ≡ wholes S (take n rs) → r + w ≤ n
  sum_few p = omega (arith, e, p, processors_few S (take n rs) laid.slot_some, taken_length laid)

abbrev plan_of_lem : (w r n s i : ℕ) (servers : List Server) (placement : List ℕ) (first : List Stand) → Plan
plan_of_lem w r n s i servers placement first = record {
  whole = w;
  ring = r;
  servers = n;
  slot = s;
  idle = i;
  server = servers;
  placement = placement;
  first = first;
}

-- a plan with other servers
abbrev pub with_servers : Plan → List Server → Plan
with_servers plan servers =
    plan_of_lem plan.whole plan.ring plan.servers plan.slot plan.idle servers plan.placement plan.first

same_plan : {w w' r r' n n' i i' : ℕ} (s : ℕ) {a a' : List Server} {b b' : List ℕ} {c c' : List Stand} →
    w ≡ w' → r ≡ r' → n ≡ n' → i ≡ i' → a ≡ a' → b ≡ b' → c ≡ c' →
    plan_of_lem w r n s i a b c ≡ plan_of_lem w' r' n' s i' a' b' c'
same_plan s p1 p2 p3 p4 p5 p6 p7 = rw (p1, p2, p3, p4, p5, p6, p7)

-- the parts of a plan, as the code finds them, are the layout
module _ {sv : Servers} {tasks S : ℕ} (ok : Layable sv tasks S) where
  abbrev reserves : List ℕ
  reserves = take sv.count sv.reserve

  abbrev placement : List ℕ
  placement = take tasks sv.placement

  counted : sv.count ≡ length reserves
  counted = sym (taken_length ok.laid)

  -- put together they are the layout of the definitions
  pub laid_made : (caches : List ℕ) {w r t : ℕ} {servers : List Server} {first : List Stand} →
      w ≡ wholes S (take sv.count sv.reserve) →
      r ≡ ring_processors S (take sv.count sv.reserve) →
      t ≡ ring_ticks S (take sv.count sv.reserve) →
      servers ≡ pad_with zero_server (up_to (server_of S caches (take tasks sv.placement) (take sv.count sv.reserve)) sv.count) →
      first ≡ pad_with zero_stand (up_to (first_reserve S (take sv.count sv.reserve)) (r + w)) →
      plan_of_lem w r sv.count S (r * S - t) servers sv.placement first ≡ laid_out S caches (take tasks sv.placement) (take sv.count sv.reserve)
  unfolding laid_out
  laid_made caches {w} {r} {t} p1 p2 p3 p4 p5 =
      let sum : r + w ≡ processors_of S reserves = rw (p1, p2) in
      same_plan S p1 p2 counted (rw (p2, p3)) (p4 ∙ ap (λ (n : ℕ). pad_with zero_server (up_to (server_of S caches placement reserves) n)) counted)
      (sym ok.placement_room) (p5 ∙ ap (λ (n : ℕ). pad_with zero_stand (up_to (first_reserve S reserves) n)) sum)
