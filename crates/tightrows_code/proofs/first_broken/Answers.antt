use Rattle.std.proofs.Common.{◌∙◌, sym, arith}
use Rattle.tasks.proofs.SearchLaws.{passed_none, passed_next, found_first, all_first}
use Rattle.tightrows_code.proofs.first_broken.Goals as goal

pub loop-i-init : goal.loop-i-init
loop-i-init c = passed_none (omega arith)

pub returns-then-breaks : goal.returns-then-breaks
returns-then-breaks c = sym (found_first c.loop-i.invariant (omega arith) (sym c.breaks.ensures ∙ c.if-breaks.true))

pub loop-i-preserved : goal.loop-i-preserved
loop-i-preserved c = passed_next c.loop-i.invariant (omega arith) (sym c.breaks.ensures ∙ c.if-breaks.false)

pub returns : goal.returns
returns c = sym (all_first c.loop-i.invariant (omega arith))
