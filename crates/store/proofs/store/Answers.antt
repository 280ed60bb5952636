-- `store` meets its contract: the items copied so far are stored, one by one.
-- Assumes nothing.
use mathlib.Core.Path.{sym, ap, ◌∙◌}
use native.Mathlib.Omega.{arith}
use mathlib.Core.List.{List}
use Prim.Native.Nat.{◌+◌}
use lib.ListN.{set}
use lib.Seq.{take_all}
use Rattle.digits.specs.Stored.{stored}
use Rattle.digits.proofs.Stored.{stored_nil}
use Rattle.store.proofs.CopyLaws.{stored_next}
use Rattle.store.proofs.store.Goals as goal

pub loop-i-init : goal.loop-i-init
loop-i-init g c = sym (stored_nil c.args.out.now c.args.at)

pub loop-i-preserved : goal.loop-i-preserved
loop-i-preserved g c =
    let v = c.index-items-i.result in
    ap (λ (o : List g.row.T.Denot). set o (c.args.at + c.loop-i.i) v) c.loop-i.invariant
    ∙ stored_next c.args.out.now c.args.items.now c.args.at c.loop-i.i v c.index-items-i.is c.requires (omega arith)

pub returns : goal.returns
returns g c = c.loop-i.invariant ∙ ap (stored c.args.out.now c.args.at) (take_all c.loop-i.i c.args.items.now (omega arith))
