use Rattle.std.proofs.Common.{◌∙◌, rules, tests}
use Rattle.std.proofs.lemmas.Iterator.{YieldsList-from_slice}
use Rattle.std.proofs.lemmas.Iterator.Search.{any_from_yields_List}
use Rattle.tasks.specs.Set.{members}
use Rattle.taskask.specs.Ask.{task_overflows}
use Rattle.taskask_code.proofs.SomeLaws.{any_some}
use Rattle.askrow.proofs.tasks_overflow.Goals as goal

pub returns : goal.returns
returns c =
    any_from_yields_List task_overflows _ _ c.any.result c.any.ensures.ran (YieldsList-from_slice (members c.args.set) cc) (λ x b q k. search (rules, tests))
    ∙ any_some task_overflows (members c.args.set)
