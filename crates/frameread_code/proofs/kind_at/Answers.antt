-- `frameread::kind_at` meets its contract: the frames passed are not formed, so the search goes on behind them.
-- Assumes nothing.
use mathlib.Core.Path.{refl, sym, ◌∙◌}
use native.Mathlib.Omega.{arith}
use lib.ListN.{drop}
use Rattle.frames.specs.declared.table.Frame.TheVariants.{Header}
use Rattle.frames.specs.Table.{all_frames}
use Rattle.frameread.specs.Line.{kind_at}
use Rattle.frameread.proofs.KindLaws.{search_found, search_next, search_over}
use Rattle.frameread_code.proofs.kind_at.Goals as goal

pub loop-i-init : goal.loop-i-init
unfolding kind_at
loop-i-init c = refl

pub returns-then-is_line : goal.returns-then-is_line
returns-then-is_line c =
    let a = c.args in
    let l = c.loop-i in
    sym (search_found all_frames (drop a.at a.text.now) l.i Header (omega arith) (sym c.is_line.ensures ∙ c.if-is_line.true)) ∙ l.invariant

pub loop-i-preserved : goal.loop-i-preserved
loop-i-preserved c =
    let a = c.args in
    let l = c.loop-i in
    sym (search_next all_frames (drop a.at a.text.now) l.i Header (omega arith) (sym c.is_line.ensures ∙ c.if-is_line.false)) ∙ l.invariant

pub returns : goal.returns
returns c =
    let a = c.args in
    let l = c.loop-i in
    sym (search_over all_frames (drop a.at a.text.now) l.i (omega arith)) ∙ l.invariant
