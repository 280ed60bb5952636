-- `charge_server` meets its contract: the members, charged, are the server's loads, the interrupts stand behind them, and their horizon
-- is within the file's.
-- Assumes nothing.
use mathlib.Core.Path.{◌∙◌}
use native.Mathlib.Omega.{arith}
use Rattle.served.proofs.ServedLaws.{small_cache, may_charge, charged_room, put_behind, left_timed, horizon_found}
use Rattle.served_code.proofs.charge_server.Goals as goal

pub charge-requires : goal.charge-requires
charge-requires c = may_charge c.requires.served _ _ (omega (arith, small_cache c.requires.served)) (omega (arith, c.requires.interrupts_in_bounds))

pub overflow_mul-k : goal.overflow_mul-k
overflow_mul-k c = omega (arith, c.requires.served.few)

pub store-requires : goal.store-requires
store-requires c = omega (arith, charged_room c.requires.served c.requires.bounded _ c.requires.interrupts_in_bounds c.charge.ensures)

pub horizon_of-requires : goal.horizon_of-requires
horizon_of-requires c = left_timed c.requires.served c.requires.bounded _ c.requires.interrupts_in_bounds (put_behind c.requires.served c.requires.bounded _ c.requires.interrupts_in_bounds c.charge.ensures c.store.ensures)

pub returns-clause-value : goal.returns-clause-value
returns-clause-value c = c.unwrap_or.ensures ∙ horizon_found c.requires.served c.requires.bounded _ c.requires.interrupts_in_bounds (put_behind c.requires.served c.requires.bounded _ c.requires.interrupts_in_bounds c.charge.ensures c.store.ensures) c.horizon_of.ensures

pub returns-clause-loads_after : goal.returns-clause-loads_after
returns-clause-loads_after c = put_behind c.requires.served c.requires.bounded _ c.requires.interrupts_in_bounds c.charge.ensures c.store.ensures
