-- `last_step` meets its contract: what loads and interrupts ask together steps last where one of the two does.
-- Assumes nothing.
use Prim.Native.Nat.{max}
use mathlib.Core.Path.{sym, ap₂, ◌∙◌}
use Rattle.demand.specs.Load.{loads_of}
use Rattle.demand.specs.Demand.{demand}
use Rattle.demand.proofs.Demand.{demand_mono}
use Rattle.interrupting.specs.Interrupts.{asked, greatest_of_all, interrupts_of}
use Rattle.interrupting.proofs.AskedLaws.{of_all_rising}
use Rattle.steps.proofs.LastLaws.{last_together}
use Rattle.steps_code.proofs.last_step.Goals as goal

pub returns : goal.returns
unfolding asked
returns c =
    let a = c.args in
    c.max.ensures ∙ ap₂ max c.last_of_loads-own.ensures c.last_of_greatest-theirs.ensures ∙
    sym
    (last_together (demand (loads_of a.loads.now a.n)) (greatest_of_all (interrupts_of a.loads.now a.n)) a.hi
    (λ t u h. demand_mono (loads_of a.loads.now a.n) c.requires.0.loads.sound h)
    (of_all_rising a.loads.now a.n c.requires.0))
