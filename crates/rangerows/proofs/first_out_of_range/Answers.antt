use Rattle.std.proofs.Common.{◌≡◌, ◌+◌, rules, tests}
use Rattle.std.specs.Option.{MatchOption}
use Rattle.std.specs.List.{position}
use Rattle.std.proofs.lemmas.Iterator.{YieldsList-from_slice}
use Rattle.std.proofs.lemmas.Iterator.Search.{position_from_yields_List}
use Rattle.tasks.specs.Set.{members}
use Rattle.taskrows.specs.Rows.{range_row}
use Rattle.rangerows.proofs.PlaceLaws.{first_position}
use Rattle.rangerows.proofs.first_out_of_range.Goals as goal

pub returns : goal.returns
returns c =
    let r = c.map_or.result in
    let found : c.position.result ≡ position range_row (members c.args.set) = position_from_yields_List range_row _ _ c.position.result c.position.ensures.ran (YieldsList-from_slice (members c.args.set) cc) (λ x b q k. search (rules, tests)) in
    let mapped : MatchOption c.position.result (r ≡ 0) (λ i. r ≡ i + 1) = search rules in
    first_position range_row (members c.args.set) c.position.result r found mapped
