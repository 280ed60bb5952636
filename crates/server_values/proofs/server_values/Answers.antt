-- Each line's figures are those of the plan's server there. Assumes nothing.
use Rattle.std.proofs.Common.{arith, ap, ◌∙◌, ◌*◌}
use Rattle.digits.specs.Stored.{stored}
use Rattle.planfigures.specs.Figures.{server_figures}
use Rattle.framelines.proofs.FillLaws.{filled_none, filled_next, filled_all}
use Rattle.planfigures.proofs.FigureLaws.{ReadOf, server_each, server_at_lem}
use Rattle.server_values.proofs.server_values.Goals as goal

pub loop-i-init : goal.loop-i-init
loop-i-init c = filled_none _ _ _

pub store-requires : goal.store-requires
store-requires c = omega (arith, c.loop-i.invariant.same)

pub loop-i-preserved : goal.loop-i-preserved
loop-i-preserved c =
    let p = c.args.plan in
    let i = c.loop-i.i in
    let read : ReadOf p.server c.reserves-reserve.result c.starts-start.result c.counts-count.result = record { reserves = c.reserves-reserve.ensures; starts = c.starts-start.ensures; counts = c.counts-count.ensures } in
    filled_next (server_figures p.server p.slot) 4 (server_each p.server p.slot) (omega arith) c.loop-i.invariant c.loop-i-test.true
    (c.store.ensures ∙ ap (stored c.loop-i.values (4 * i)) (server_at_lem p.server p.slot i read c.start_or_mark-begin.ensures)) c.store.auto.out

pub returns : goal.returns
returns c =
    let p = c.args.plan in
    filled_all (server_figures p.server p.slot) 4 (server_each p.server p.slot) (omega arith) c.loop-i.invariant (omega arith)
