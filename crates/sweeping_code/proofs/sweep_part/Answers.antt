-- Each turn cuts one name off and counts it, until the part ends or no more names are read.
-- Assumes nothing.
use Rattle.std.proofs.Common.{length, ◌<◌, arith}
use Rattle.names.proofs.CutLaws.{cut_from, cut_within}
use Rattle.sweeping.proofs.PartLaws.{part_none, part_full, part_end, part_next}
use Rattle.sweeping_code.proofs.sweep_part.Goals as goal

pub loop-tally-init : goal.loop-tally-init
loop-tally-init g c = part_none c.args.part.now c.requires

pub returns-then-part_ends : goal.returns-then-part_ends
returns-then-part_ends g c =
    part_end c.loop-tally.invariant c.loop-tally-test.true c.cut_name-cut.ensures.value c.cut_name-cut.ensures.name_after c.if-part_ends.true

-- where a name ends the part goes on
pub overflow_add-at : goal.overflow_add-at
overflow_add-at g c =
    omega (arith, cut_within c.args.part.now _ _ c.loop-tally.invariant.within c.cut_name-cut.ensures.value, c.if-part_ends.false)

pub loop-tally-smaller : goal.loop-tally-smaller
loop-tally-smaller g c =
    omega (
      arith,
      cut_within c.args.part.now _ _ c.loop-tally.invariant.within c.cut_name-cut.ensures.value,
      c.if-part_ends.false,
      cut_from c.args.part.now _ _ c.cut_name-cut.ensures.value,
    )

pub loop-tally-preserved : goal.loop-tally-preserved
loop-tally-preserved g c =
    let some : c.cut_name-cut.result.end < length c.args.part.now =
    omega (arith, cut_within c.args.part.now _ _ c.loop-tally.invariant.within c.cut_name-cut.ensures.value, c.if-part_ends.false) in
    part_next c.loop-tally.invariant c.loop-tally-test.true c.cut_name-cut.ensures.value c.cut_name-cut.ensures.name_after some c.held_answer-answer.ensures c.counted-tally.ensures

pub returns : goal.returns
returns g c = part_full c.loop-tally.invariant c.loop-tally-test.false
