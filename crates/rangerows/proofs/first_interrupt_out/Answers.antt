use Rattle.std.proofs.Common.{◌≡◌, ◌+◌, rules, tests}
use Rattle.std.specs.Option.{MatchOption}
use Rattle.std.specs.List.{position}
use Rattle.std.proofs.lemmas.Iterator.{YieldsList-from_slice}
use Rattle.std.proofs.lemmas.Iterator.Search.{position_from_yields_List}
use Rattle.tasks.specs.Set.{counted}
use Rattle.taskrows.specs.Rows.{interrupt_row}
use Rattle.rangerows.proofs.PlaceLaws.{first_position}
use Rattle.rangerows.proofs.first_interrupt_out.Goals as goal

pub returns : goal.returns
returns c =
    let r = c.map_or.result in
    let found : c.position.result ≡ position (interrupt_row c.args.processors) (counted c.args.interrupts) = position_from_yields_List (interrupt_row c.args.processors) _ _ c.position.result c.position.ensures.ran (YieldsList-from_slice (counted c.args.interrupts) cc) (λ x b q k. search (rules, tests)) in
    let mapped : MatchOption c.position.result (r ≡ 0) (λ i. r ≡ i + 1) = search rules in
    first_position (interrupt_row c.args.processors) (counted c.args.interrupts) c.position.result r found mapped
