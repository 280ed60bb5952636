-- One processor of a plan: is it there, and what asking who runs on it asks of the plan.
-- Document 01, "From tasks to servers to ring" (RULES 3) and row 11 of the refusals (RULES 6.5).
use Rattle.std.specs.Prelude.{ℕ, ◌+◌, ◌≤◌, Bool, ◌&&◌, map, leb}
use Rattle.reserves.specs.Slotted.{SlottedFirst}
use Rattle.reserves.specs.Reserves.{processors_of}
use Rattle.plan.specs.declared.plan.Plan.{Plan}
use Rattle.plan.specs.declared.server.Server.{Server}
use Rattle.plan.specs.Plan.{reserves_in}

-- the processors that are there: 1 to r + whole
unfoldable pub is_processor : Plan → ℕ → Bool
is_processor plan p = leb 1 p && leb p (plan.ring + plan.whole)

-- what asking a plan that is checked already asks: its reserves are laid, and the processor is there
pub record Standing (plan : Plan) (p : ℕ) : Type 0 where
  pub laid : SlottedFirst plan.slot (map (λ (s : Server). s.reserve) plan.server) plan.servers
  pub from_one : 1 ≤ p
  pub there : p ≤ processors_of plan.slot (reserves_in plan)
