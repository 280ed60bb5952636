use Rattle.std.proofs.Common.{◌∙◌, rules, tests}
use Rattle.std.proofs.lemmas.Iterator.{YieldsList-from_slice}
use Rattle.std.proofs.lemmas.Iterator.Search.{any_from_yields_List}
use Rattle.tasks.specs.Set.{counted}
use Rattle.taskask.specs.Ask.{interrupt_overflows}
use Rattle.taskask_code.proofs.SomeLaws.{any_some}
use Rattle.askrow.proofs.interrupts_overflow.Goals as goal

pub returns : goal.returns
returns c =
    any_from_yields_List interrupt_overflows _ _ c.any.result c.any.ensures.ran (YieldsList-from_slice (counted c.args.interrupts) cc) (λ x b q k. search (rules, tests))
    ∙ any_some interrupt_overflows (counted c.args.interrupts)
