-- `supply_at` meets its contract: supply is at most the length, so nothing wraps.
-- Assumes nothing.
use mathlib.Core.Path.{refl}
use native.Mathlib.Omega.{arith}
use Rattle.demand.specs.Supply.{supply_past}
use Rattle.demand.proofs.Supply.{slots_within, supply_within}
use Rattle.demand_code.proofs.supply_at.Goals as goal

pub overflow_mul-whole : goal.overflow_mul-whole
overflow_mul-whole c = omega (arith, slots_within c.args.slot c.args.gap c.args.t)

pub returns-then-broken : goal.returns-then-broken
unfolding supply_past
returns-then-broken c = omega arith

pub overflow_add-result : goal.overflow_add-result
unfolding supply_past
overflow_add-result c = omega (arith, supply_within c.args.slot c.args.gap c.args.t)

pub returns : goal.returns
unfolding supply_past
returns c = refl
