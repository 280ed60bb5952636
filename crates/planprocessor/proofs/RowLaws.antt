-- The row of a plan's reserves may be asked as the plan may, and answers as it does.
-- Assumes nothing.
use Prim.Native.Nat.{ℕ, ◌≤◌}
use mathlib.Core.Path.{◌≡◌, sym, ap, subst}
use mathlib.Core.List.{List, map}
use lib.ListN.{take}
use Rattle.reserves.specs.Slotted.{SlottedFirst}
use Rattle.reserves.specs.Reserves.{processors_of}
use Rattle.ring.specs.declared.clock.Tick.{Tick}
use Rattle.ring.specs.Who.{who_of}
use Rattle.plan.specs.declared.plan.Plan.{Plan}
use Rattle.plan.specs.declared.server.Server.{Server}
use Rattle.plan.specs.Plan.{reserves_in}
use Rattle.plan.proofs.RecordLaws.{row_front}
use Rattle.planprocessor.specs.Standing.{Standing}

-- the row of a plan's reserves, of which its servers count
module _ (plan : Plan) {row : List ℕ} (e : row ≡ map (λ (s : Server). s.reserve) plan.server) where
  -- it may be asked where the plan may
  pub row_stands : {p : ℕ} → Standing plan p →
      SlottedFirst plan.slot row plan.servers × (1 ≤ p) × (p ≤ processors_of plan.slot (take plan.servers row))
  row_stands s =
      (subst (λ (r : List ℕ). SlottedFirst plan.slot r plan.servers) (sym e) s.laid, s.from_one, rw (row_front (λ (s : Server). s.reserve) plan e) s.there)

  -- and answers as the plan does
  pub row_who : (p : ℕ) (x : Tick) → who_of plan.slot (take plan.servers row) p x ≡ who_of plan.slot (reserves_in plan) p x
  row_who p x = ap (λ (rs : List ℕ). who_of plan.slot rs p x) (row_front (λ (s : Server). s.reserve) plan e)
