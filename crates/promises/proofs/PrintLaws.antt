-- What a plan that is laid out prints, and any plan that agrees with it in what is used.
-- Assumes nothing.
use Prim.Native.Nat.{ℕ, zero, suc, ◌+◌, ◌-◌, ◌≤◌, ◌<◌}
use mathlib.Core.Path.{◌≡◌, refl, sym, ap, subst, ◌∙◌}
use mathlib.Core.Bool.{Bool, cond}
use mathlib.Core.List.{List, [], ◌∷◌, map}
use native.Mathlib.Numerals.{add-one}
use native.Mathlib.Omega.{arith}
use borrow.Author.Tests.{lt-ltb}
use lib.ListN.{length, get_or, take}
use lib.Seq.{get_or-take}
use Rattle.places.specs.Places.{places_in}
use Rattle.places.proofs.PaddedLaws.{padded_take}
use Rattle.reserves.specs.Reserves.{reserve_of, start_of, processors_of}
use Rattle.ring.specs.declared.cover.Stand.{Stand}
use Rattle.ring.specs.Who.{first_reserve}
use Rattle.plan.specs.declared.plan.Plan.{Plan}
use Rattle.plan.specs.declared.server.Server.{Server}
use Rattle.plan.specs.Plan.{no_server, zero_stand, server_at}
use Rattle.layout.specs.Layout.{server_of, laid_out}
use Rattle.layout.proofs.LaidLaws.{laid_reserves, laid_server, laid_first}
use Rattle.planagree.specs.Agrees.{used, SamePlan}
use Rattle.plancheck.proofs.Checked.{reserves_same}
use Rattle.ring_claims.specs.Serves.{RingServer}
use Rattle.ring_claims.specs.Rota.{PrintsRing}
use Rattle.rotas.specs.Rota.{Rota, IsServer}
use Rattle.promises.specs.Prints.{PrintsServer, PrintsRota, printed_of}

-- what stands at a place of something of each element
map_at : {A B : Type 0} (f : A → B) (d : A) (xs : List A) (i : ℕ) → get_or (map f xs) i (f d) ≡ f (get_or xs i d)
map_at f d [] zero = refl
map_at f d [] (suc i) = refl
map_at f d (x ∷ xs) zero = refl
map_at f d (x ∷ xs) (suc i) = map_at f d xs i

module _ (rota : Rota) (placement : List ℕ) where
  -- ---- a plan that is laid out

  module _ (caches : List ℕ) where
    abbrev laid : Plan
    laid = laid_out rota.slot caches placement rota.reserves

    -- the server of a number
    server_is : (q : ℕ) → IsServer rota q → server_at laid q ≡ server_of rota.slot caches placement rota.reserves q
    server_is zero s = absurd (omega (arith, s.some))
    server_is (suc i) s =
        laid_server rota.slot caches placement rota.reserves no_server i s.there
        ∙ ap (server_of rota.slot caches placement rota.reserves) (add-one i)

    -- what it prints
    server_of_lem : (q : ℕ) → PrintsServer rota placement q (server_of rota.slot caches placement rota.reserves q)
    server_of_lem q = record {
      reserve = refl;
      start = λ h. ap (λ (b : Bool). cond b (start_of rota.slot rota.reserves q) 0) (lt-ltb (reserve_of rota.reserves q) rota.slot h);
      tasks = refl;
      places = padded_take (places_in placement q) (length (places_in placement q)) refl;
    }

    -- the first reserve of a processor
    first_is : (p : ℕ) → 1 ≤ p → p ≤ processors_of rota.slot rota.reserves →
        get_or laid.first (p - 1) zero_stand ≡ first_reserve rota.slot rota.reserves p
    first_is zero h l = absurd (omega arith)
    first_is (suc i) h l =
        let e : suc i - 1 ≡ i = omega arith in
        ap (λ (k : ℕ). get_or laid.first k zero_stand) e
        ∙ laid_first rota.slot caches placement rota.reserves zero_stand i l
        ∙ ap (first_reserve rota.slot rota.reserves) (add-one i)

    pub laid_prints : PrintsRota rota placement laid
    unfolding laid_out
    laid_prints = record {
      slot = refl;
      reserves = laid_reserves rota.slot caches placement rota.reserves;
      servers = refl;
      server = λ q s. subst (PrintsServer rota placement q) (sym (server_is q s)) (server_of_lem q);
      placed = padded_take placement (length placement) refl;
      ring = refl;
      whole = refl;
      idle = refl;
      first = first_is;
    }

  -- ---- a plan that agrees with one that prints the rota

  module _ {a b : Plan} (same : SamePlan (length placement) a b) (prints : PrintsRota rota placement b) where
    -- what is used of a server is the same
    used_same : (i : ℕ) → i < b.servers → used (get_or a.server i no_server) ≡ used (get_or b.server i no_server)
    used_same i h =
        sym (used_at a (omega (arith, same.servers, h))) ∙ ap (λ (l : List Server). get_or l i (used no_server)) same.server ∙ used_at b h
      where
        used_at : (plan : Plan) → i < plan.servers → get_or (map used (take plan.servers plan.server)) i (used no_server) ≡ used (get_or plan.server i no_server)
        used_at plan l = map_at used no_server (take plan.servers plan.server) i ∙ ap used (get_or-take plan.servers plan.server i no_server l)

    -- and prints the same
    server_prints : (q : ℕ) → {s t : Server} → used s ≡ used t → PrintsServer rota placement q t → PrintsServer rota placement q s
    server_prints q e p = record {
      reserve = ap (λ (u : Server). u.reserve) e ∙ p.reserve;
      start = λ h. ap (λ (u : Server). u.start.0) e ∙ p.start h;
      tasks = ap (λ (u : Server). u.count) e ∙ p.tasks;
      places = ap (λ (u : Server). u.places) e ∙ p.places;
    }

    server_at_lem : (q : ℕ) → IsServer rota q → PrintsServer rota placement q (server_at a q)
    server_at_lem zero s = absurd (omega (arith, s.some))
    server_at_lem (suc i) s = server_prints (suc i) (used_same i (omega (arith, prints.servers, s.there))) (prints.server (suc i) s)

    -- the first reserves
    first_at_lem : (p : ℕ) → 1 ≤ p → p ≤ processors_of rota.slot rota.reserves →
        get_or a.first (p - 1) zero_stand ≡ first_reserve rota.slot rota.reserves p
    first_at_lem p h l =
        let k : p - 1 < b.ring + b.whole = omega (arith, prints.ring, prints.whole) in
        sym (get_or-take (a.ring + a.whole) a.first (p - 1) zero_stand (omega (arith, k, same.ring, same.whole)))
        ∙ ap (λ (l : List Stand). get_or l (p - 1) zero_stand) same.first
        ∙ get_or-take (b.ring + b.whole) b.first (p - 1) zero_stand k
        ∙ prints.first p h l

    pub same_prints : PrintsRota rota placement a
    same_prints = record {
      slot = same.slot ∙ prints.slot;
      reserves = reserves_same same ∙ prints.reserves;
      servers = same.servers ∙ prints.servers;
      server = server_at_lem;
      placed = same.placement ∙ prints.placed;
      ring = same.ring ∙ prints.ring;
      whole = same.whole ∙ prints.whole;
      idle = same.idle ∙ prints.idle;
      first = first_at_lem;
    }

  -- ---- its lines are those of the ring that is laid of the rota's reserves

  module _ (mark : ℕ) {plan : Plan} (prints : PrintsRota rota placement plan) where
    -- a ring server's start is printed, not the mark
    start_shown : (q : ℕ) → RingServer rota.slot rota.reserves q → (printed_of mark plan).start q ≡ start_of rota.slot rota.reserves q
    start_shown q s =
        let server : PrintsServer rota placement q (server_at plan q) = prints.server q (record { some = s.some; there = s.there }) in
        let below : (server_at plan q).reserve < plan.slot = omega (arith, server.reserve, prints.slot, s.ring) in
        ap (λ (b : Bool). cond b (server_at plan q).start.0 mark) (lt-ltb (server_at plan q).reserve plan.slot below) ∙ server.start s.ring

    pub lines_of : PrintsRing rota.slot rota.reserves (printed_of mark plan)
    lines_of = record {
      whole = prints.whole;
      ring = prints.ring;
      servers = prints.servers;
      slot = prints.slot;
      idle = prints.idle;
      reserve = λ q h l. (prints.server q (record { some = h; there = l })).reserve;
      start = start_shown;
      first = λ p h l. ap (λ (s : Stand). s.server) (prints.first p h l);
      duration = λ p h l. ap (λ (s : Stand). s.left) (prints.first p h l);
    }
