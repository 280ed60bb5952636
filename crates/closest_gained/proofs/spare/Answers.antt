-- `spare` meets its contract: supply less demand, which does not exceed it.
-- Assumes nothing.
use Prim.Native.Nat.{◌-◌}
use mathlib.Core.Path.{ap₂}
use Rattle.slack.specs.Slack.{slack_past}
use Rattle.closest_gained.proofs.spare.Goals as goal

pub returns : goal.returns
unfolding slack_past
returns c = ap₂ ◌-◌ c.supply_at-supply.ensures c.asked_at.ensures
