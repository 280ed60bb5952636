-- Two plans agree exactly when they are the same in all that is used.
-- Assumes nothing.
use Prim.Native.Nat.{ℕ}
use mathlib.Core.Path.{◌≡◌, refl, sym, ap, ap₂, ◌∙◌}
use mathlib.Core.Bool.{Bool, true, ◌&&◌}
use mathlib.Core.List.{List}
use borrow.Author.Tests.{eq-eqb, eqb-true}
use lib.Dec.{eqb}
use lib.ListN.{take}
use Rattle.laws.proofs.Tests.{and_left, and_right, and_both}
use Rattle.ring.specs.declared.cover.Stand.{Stand}
use Rattle.plan.specs.declared.plan.Plan.{Plan}
use Rattle.plan.specs.declared.server.Server.{Server}
use Rattle.planagree.specs.Agrees.{alike, same_front, same_figures, used, same_server, same_servers, same_stand, firsts, same_processors, agrees, used_servers, SamePlan}
use Rattle.planagree.proofs.Fronts.{alike_equal, alike_self, alike_map}

-- a number is the same as itself
eqb_self : (n : ℕ) → eqb n n ≡ true
eqb_self n = eq-eqb n n refl

numbers_equal : (xs ys : List ℕ) → alike eqb xs ys ≡ true → xs ≡ ys
numbers_equal = alike_equal eqb eqb-true

-- ---- one server

module _ (a b : Server) where
  abbrev from_cache : Bool
  from_cache = eqb a.cache b.cache && alike eqb a.places b.places

  abbrev from_start : Bool
  from_start = eqb a.start.0 b.start.0 && from_cache

  abbrev from_reserve : Bool
  from_reserve = eqb a.reserve b.reserve && from_start

  -- the test of two servers says that they are equal
  pub server_equal : same_server a b ≡ true → a ≡ b
  unfolding same_server
  server_equal e =
      let e1 = and_right (eqb a.count b.count) from_reserve e in
      let e2 = and_right (eqb a.reserve b.reserve) from_start e1 in
      let e3 = and_right (eqb a.start.0 b.start.0) from_cache e2 in
      server_of_parts
      (eqb-true a.count b.count (and_left (eqb a.count b.count) from_reserve e))
      (numbers_equal a.places b.places (and_right (eqb a.cache b.cache) (alike eqb a.places b.places) e3))
      (eqb-true a.reserve b.reserve (and_left (eqb a.reserve b.reserve) from_start e1))
      (eqb-true a.start.0 b.start.0 (and_left (eqb a.start.0 b.start.0) from_cache e2))
      (eqb-true a.cache b.cache (and_left (eqb a.cache b.cache) (alike eqb a.places b.places) e3))
    where
      server_of_parts : a.count ≡ b.count → a.places ≡ b.places → a.reserve ≡ b.reserve → a.start.0 ≡ b.start.0 → a.cache ≡ b.cache → a ≡ b
      server_of_parts p1 p2 p3 p4 p5 =
          let parts : ◌≡◌ {A = Server} (record { count = a.count; places = a.places; reserve = a.reserve; start = record { 0 = a.start.0 }; cache = a.cache }) (record { count = b.count; places = b.places; reserve = b.reserve; start = record { 0 = b.start.0 }; cache = b.cache }) = rw (p1, p2, p3, p4, p5) in
          parts

-- and each server is the same as itself
pub server_self : (a : Server) → same_server a a ≡ true
unfolding same_server
server_self a =
    rw (eqb_self a.count, eqb_self a.reserve, eqb_self a.start.0, eqb_self a.cache) (alike_self eqb eqb_self a.places)

-- ---- one first reserve

stand_equal : (a b : Stand) → same_stand a b ≡ true → a ≡ b
stand_equal a b e =
    let parts : ◌≡◌ {A = Stand} (record { server = a.server; left = a.left }) (record { server = b.server; left = b.left }) =
    rw (eqb-true a.server b.server (and_left (eqb a.server b.server) (eqb a.left b.left) e), eqb-true a.left b.left (and_right (eqb a.server b.server) (eqb a.left b.left) e)) in
    parts

stand_self : (a : Stand) → same_stand a a ≡ true
stand_self a = and_both (eqb_self a.server) (eqb_self a.left)

-- ---- two plans

-- the servers are compared without unused room
servers_by : (a b : Plan) → same_servers a b ≡ alike same_server (used_servers a) (used_servers b)
unfolding same_servers
servers_by a b = alike_map used same_server (take a.servers a.server) (take b.servers b.server)

module _ (a b : Plan) where
  abbrev from_slot : Bool
  from_slot = eqb a.slot b.slot && eqb a.idle b.idle

  abbrev from_servers : Bool
  from_servers = eqb a.servers b.servers && from_slot

  abbrev from_ring : Bool
  from_ring = eqb a.ring b.ring && from_servers

  -- the numbers of the plan line
  pub record Figures : Type 0 where
    pub whole : a.whole ≡ b.whole
    pub ring : a.ring ≡ b.ring
    pub servers : a.servers ≡ b.servers
    pub slot : a.slot ≡ b.slot
    pub idle : a.idle ≡ b.idle

  -- the test of the numbers says that they are the same
  pub figures_same : same_figures a b ≡ true → Figures
  unfolding same_figures
  figures_same e =
      let e1 = and_right (eqb a.whole b.whole) from_ring e in
      let e2 = and_right (eqb a.ring b.ring) from_servers e1 in
      let e3 = and_right (eqb a.servers b.servers) from_slot e2 in
      record {
        whole = eqb-true a.whole b.whole (and_left (eqb a.whole b.whole) from_ring e);
        ring = eqb-true a.ring b.ring (and_left (eqb a.ring b.ring) from_servers e1);
        servers = eqb-true a.servers b.servers (and_left (eqb a.servers b.servers) from_slot e2);
        slot = eqb-true a.slot b.slot (and_left (eqb a.slot b.slot) (eqb a.idle b.idle) e3);
        idle = eqb-true a.idle b.idle (and_right (eqb a.slot b.slot) (eqb a.idle b.idle) e3);
      }

  -- plans that agree are the same in what is used
  pub agree_same : (n : ℕ) → agrees n a b ≡ true → SamePlan n a b
  unfolding agrees same_processors
  agree_same n e =
      let placement-test = same_front n a.placement b.placement in
      let after = (placement-test && same_processors a b) in
      let f = figures_same (and_left (same_figures a b) (same_servers a b && after) e) in
      let e1 = and_right (same_figures a b) (same_servers a b && after) e in
      let later = and_right (same_servers a b) after e1 in
      record {
        whole = f.whole;
        ring = f.ring;
        servers = f.servers;
        slot = f.slot;
        idle = f.idle;
        server = alike_equal same_server server_equal (used_servers a) (used_servers b) (sym (servers_by a b) ∙ and_left (same_servers a b) after e1);
        placement = numbers_equal (take n a.placement) (take n b.placement) (and_left placement-test (same_processors a b) later);
        first = alike_equal same_stand stand_equal (firsts a) (firsts b) (and_right placement-test (same_processors a b) later);
      }

-- a plan agrees with itself
pub agree_self : (n : ℕ) (a : Plan) → agrees n a a ≡ true
unfolding agrees same_figures same_processors
agree_self n a =
    rw (eqb_self a.whole, eqb_self a.ring, eqb_self a.servers, eqb_self a.slot, eqb_self a.idle, servers_by a a, alike_self same_server server_self (used_servers a), alike_self eqb eqb_self (take n a.placement))
    (alike_self same_stand stand_self (firsts a))

-- plans that are the same in what is used agree with the same plans
module _ (n : ℕ) (a b m : Plan) (s : SamePlan n a b) where
  figures_alike : same_figures a m ≡ same_figures b m
  unfolding same_figures
  figures_alike = rw (s.whole, s.ring, s.servers, s.slot, s.idle)

  servers_alike : same_servers a m ≡ same_servers b m
  servers_alike = servers_by a m ∙ ap (λ (l : List Server). alike same_server l (used_servers m)) s.server ∙ sym (servers_by b m)

  processors_alike : same_processors a m ≡ same_processors b m
  unfolding same_processors
  processors_alike = ap (λ (l : List Stand). alike same_stand l (firsts m)) s.first

  -- so they agree with the same plan, or neither does
  pub agree_alike : agrees n a m ≡ agrees n b m
  unfolding agrees
  agree_alike =
      ap₂ ◌&&◌ figures_alike
      (ap₂ ◌&&◌ servers_alike (ap₂ ◌&&◌ (ap (λ (l : List ℕ). alike eqb l (take n m.placement)) s.placement) processors_alike))
