-- `values::task_values` meets its contract: each figure stands in its field's place.
use Rattle.taskvalues.proofs.task_values.Goals as goal

pub returns : goal.returns
returns c = cc c.unwrap_or.ensures
