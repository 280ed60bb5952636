-- `frameread::is_kind` meets its contract: a kind compared byte by byte.
-- Assumes nothing.
use Prim.Native.Nat.{◌-◌, ◌<◌}
use mathlib.Core.Path.{sym, ap}
use native.Mathlib.Omega.{arith}
use lib.ListN.{length}
use Rattle.frames.specs.declared.table.Row.{Row}
use Rattle.frames.specs.Table.{row_of}
use Rattle.frameread.proofs.Places.{kind_short, kind_first, kind_second}
use Rattle.is_line.proofs.is_kind.Goals as goal

pub returns-then-text-at-lt2 : goal.returns-then-text-at-lt2
returns-then-text-at-lt2 c =
    let a = c.args in
    let short : length a.text.now - a.at < 2 = omega (arith, c.if-text-at-lt2.true) in
    sym (kind_short a.text.now a.at a.frame short)

pub returns-then-text-at : goal.returns-then-text-at
unfolding row_of
returns-then-text-at c =
    let kind = ap (λ (r : Row). r.kind) c.row_of-row.ensures in
    sym (kind_second c.args.text.now c.args.at c.args.frame _ kind (omega arith) c.if-text-at.true)

pub returns-else-text-at : goal.returns-else-text-at
unfolding row_of
returns-else-text-at c =
    let kind = ap (λ (r : Row). r.kind) c.row_of-row.ensures in
    sym (kind_first c.args.text.now c.args.at c.args.frame _ kind (omega arith) c.if-text-at.false)
