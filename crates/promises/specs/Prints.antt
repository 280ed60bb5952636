-- What a plan prints of a rota and a placement: figure by figure, in every place that is used; and the lines that a boot code reads.
use Rattle.std.specs.Prelude.{ℕ, ◌-◌, ◌≤◌, ◌<◌, ◌≡◌, cond, List, length, get_or, take, ltb}
use Rattle.places.specs.Places.{places_in}
use Rattle.reserves.specs.Reserves.{reserve_of, start_of, ring_processors, wholes, idle_positions, processors_of}
use Rattle.ring.specs.Who.{first_reserve}
use Rattle.plan.specs.declared.plan.Plan.{Plan}
use Rattle.plan.specs.declared.server.Server.{Server}
use Rattle.plan.specs.Plan.{zero_stand, server_at, reserves_in}
use Rattle.ring_claims.specs.Rota.{Printed}
use Rattle.rotas.specs.Rota.{Rota, IsServer}

-- a server of the plan is server q of the rota: its reserve, where that stands if it stands on the ring, and its tasks' places
pub record PrintsServer (rota : Rota) (placement : List ℕ) (q : ℕ) (server : Server) : Type 0 where
  pub reserve : server.reserve ≡ reserve_of rota.reserves q
  pub start : reserve_of rota.reserves q < rota.slot → server.start.0 ≡ start_of rota.slot rota.reserves q
  pub tasks : server.count ≡ length (places_in placement q)
  pub places : take server.count server.places ≡ places_in placement q

-- slot, servers, each task's server, processors, idle positions and first reserves
pub record PrintsRota (rota : Rota) (placement : List ℕ) (plan : Plan) : Type 0 where
  pub slot : plan.slot ≡ rota.slot
  pub reserves : reserves_in plan ≡ rota.reserves
  pub servers : plan.servers ≡ length rota.reserves
  pub server : (q : ℕ) → IsServer rota q → PrintsServer rota placement q (server_at plan q)
  pub placed : take (length placement) plan.placement ≡ placement
  pub ring : plan.ring ≡ ring_processors rota.slot rota.reserves
  pub whole : plan.whole ≡ wholes rota.slot rota.reserves
  pub idle : plan.idle ≡ idle_positions rota.slot rota.reserves
  pub first : (p : ℕ) → 1 ≤ p → p ≤ processors_of rota.slot rota.reserves →
      get_or plan.first (p - 1) zero_stand ≡ first_reserve rota.slot rota.reserves p

-- the figures of a plan's lines 11, 12 and 14, from its record alone: of the plan, by server, by processor. A mark stands for the
-- ring start of a server that has a whole processor.
abbrev pub printed_of : (mark : ℕ) → Plan → Printed
printed_of mark plan =
    record {
      whole = plan.whole;
      ring = plan.ring;
      servers = plan.servers;
      slot = plan.slot;
      idle = plan.idle;
      reserve = λ q. (server_at plan q).reserve;
      start = λ q. cond (ltb (server_at plan q).reserve plan.slot) (server_at plan q).start.0 mark;
      first = λ p. (get_or plan.first (p - 1) zero_stand).server;
      duration = λ p. (get_or plan.first (p - 1) zero_stand).left;
    }
