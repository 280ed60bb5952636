-- A rota: a slot, the reserves in server order, and what each server demands and loses on entry. Nothing here says who placed the
-- tasks, or what the demand comes from: a planned set, an edited plan, a demand with interrupts are all instances.
use Rattle.std.specs.Prelude.{ℕ, ◌≤◌, List, length}
use Rattle.demand.specs.Lawful.{Lawful}
use Rattle.verdict.specs.Reserve.{Smallest}
use Rattle.reserves.specs.Reserves.{reserve_of}

pub record Rota : Type 0 where
  pub slot : ℕ
  pub reserves : List ℕ
  -- of server q, at a length
  pub demand_of : ℕ → ℕ → ℕ
  -- of server q: the entry loss
  pub loss_of : ℕ → ℕ

-- server q is there
pub record IsServer (rota : Rota) (q : ℕ) : Type 0 where
  pub some : 1 ≤ q
  pub there : q ≤ length rota.reserves

-- the reserve of server q is the smallest allowed one with which its demand passes. A horizon decides for that demand: without one,
-- not to pass would name no window that falls short. It is none at length 0, and at least a tick at some length.
pub record StandingServer (rota : Rota) (q : ℕ) : Type 0 where
  pub smallest : Smallest (rota.demand_of q) rota.slot (rota.loss_of q) (reserve_of rota.reserves q)
  pub horizon : ℕ
  pub lawful : Lawful (rota.demand_of q) horizon
  pub long : ℕ
  pub demanded : 1 ≤ rota.demand_of q long

-- a rota stands when each of its servers does. That its reserves lie from 1 to the slot follows (Claims, StandingSlotted).
pub record Standing (rota : Rota) : Type 0 where
  pub slot_some : 1 ≤ rota.slot
  pub servers : (q : ℕ) → IsServer rota q → StandingServer rota q
