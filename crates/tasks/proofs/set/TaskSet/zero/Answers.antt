-- `set::TaskSet::zero` meets its contract.
use mathlib.Core.Path.{ap}
use Rattle.tasks.specs.declared.set.Interrupts.{Interrupts}
use Rattle.tasks.specs.Set.{zero_set, set_with}
use Rattle.tasks.proofs.set.TaskSet.zero.Goals as goal

pub returns : goal.returns
returns c = ap (λ (is : Interrupts). set_with zero_set is) c.none.ensures
