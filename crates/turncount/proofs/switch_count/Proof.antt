-- `switch_count` meets its contract.
-- Assumes nothing.
use mathlib.Core.Path.{◌≡◌, ◌∙◌}
use native.Mathlib.Nat.{pos_of_ne-zero}
use borrow.Author.Rules.{rules}
use native.Mathlib.Omega.{arith}
use lib.ListN.{take}
use Rattle.turn.specs.Count.{stretches}
use Rattle.turncount.proofs.FigureLaws.{whole_few, stretches_full, stretches_idle, many_small, amid_small, switches_counted, product_fits, sum_fits}
use Rattle.turncount.proofs.switch_count.Statement.{statement}
use Rattle.turncount.proofs.switch_count.Tie as tie
use Rattle.turncount.proofs.switch_count.Lts.{else-turn-ne0, then-turn-ne0}

overflow_sub-stretches : tie.Need-overflow_sub-stretches
overflow_sub-stretches c = whole_few c.requires c.whole_count.ensures

-- what is counted are the stretches
counted : (c : tie.Joined-turn-ne0) →
    let a = c.args in
    c.if-turn-ne0.stretches ≡ stretches a.turn.slot (take a.turn.servers a.reserves.now)
counted c =
    let laid = c.requires in
    (elim c.if-turn-ne0.branch [
      | then-turn-ne0 t ↦ t.stretches-is ∙ stretches_idle laid c.whole_count.ensures (pos_of_ne-zero t.if-turn-ne0.true)
      | else-turn-ne0 t ↦ t.stretches-is ∙ stretches_full laid c.whole_count.ensures t.if-turn-ne0.false
    ])

overflow_mul-result : tie.Need-overflow_mul-result
overflow_mul-result c =
    let j = c.before.before in
    let laid = j.requires in
    let many = many_small laid (counted j) in
    product_fits _ _ (omega (arith, laid.few, laid.slotted.slot_below)) many

overflow_add-result : tie.Need-overflow_add-result
overflow_add-result c =
    let j = c.before.before.before in
    let laid = j.requires in
    let many = many_small laid (counted j) in
    let some = amid_small laid c.amid_count.ensures in
    sum_fits _ _ _ (omega (arith, laid.few, laid.slotted.slot_below)) many some

returns : tie.Need-returns
returns c =
    let j = c.before.before.before in
    switches_counted j.requires (counted j) c.amid_count.ensures

pub switch_count_spec : {M : Type 1} → statement M
switch_count_spec =
    tie.close
    (tie.spec
    (λ c κs. search rules)
    overflow_sub-stretches
    (λ c. search rules)
    overflow_mul-result
    (λ c κs. search rules)
    overflow_add-result
    returns)
