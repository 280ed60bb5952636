use Rattle.std.proofs.Common.{◌≡◌, ◌∙◌, ◌+◌, sym, length, arith}
use Rattle.members.proofs.FiledLaws.{filed_first}
use Rattle.alonerow.proofs.AloneLaws.{tried_none, tried_next, tried_found, tried_all, none_first_alone}
use borrow.Author.Tests.{not-true, not-false}
use Rattle.alonerow_code.proofs.first_alone.Goals as goal

pub returns-then-bare : goal.returns-then-bare
returns-then-bare c =
    let bare : length c.args.interrupts.now ≡ 0 = omega (arith, c.if-bare.true) in
    none_first_alone c.args.interrupts.now c.requires.filed c.requires.met bare

pub loop-i-init : goal.loop-i-init
loop-i-init c = tried_none _ c.args.figures.now _

pub alone-requires : goal.alone-requires
alone-requires c = record { filed = filed_first (c.loop-i.i + 1) (omega arith) c.requires.filed; bounded = c.requires.bounded }

pub overflow_add-result : goal.overflow_add-result
overflow_add-result c = omega (arith, c.requires.filed.few)

pub returns-then-not-alone : goal.returns-then-not-alone
returns-then-not-alone c =
    tried_found _ c.args.figures.now _ c.loop-i.invariant c.loop-i-test.true (sym c.alone.ensures ∙ not-true _ c.if-not-alone.true-raw)

pub loop-i-preserved : goal.loop-i-preserved
loop-i-preserved c =
    tried_next _ c.args.figures.now _ c.loop-i.invariant c.loop-i-test.true (sym c.alone.ensures ∙ not-false _ c.if-not-alone.false-raw)

pub returns : goal.returns
returns c = tried_all _ c.args.figures.now _ c.loop-i.invariant c.loop-i-test.false
