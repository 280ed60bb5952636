-- `numberedparts::put_first` meets its contract. The loop's invariant: the first reserves passed are put one behind the other.
-- Assumes nothing.
use Prim.Native.Nat.{◌+◌, ◌*◌}
use native.Mathlib.Omega.{arith}
use mathlib.Core.Path.{◌∙◌, ap}
use Rattle.digits.specs.Stored.{stored}
use Rattle.handed.specs.Handed.{first_at}
use Rattle.numberedparts.specs.Parts.{stand_numbers_at}
use Rattle.numberedparts.proofs.PartsLaws.{put_none, put_next, put_all, stands_each, stand_there}
use Rattle.numberedparts.proofs.put_first.Goals as goal

pub loop-p-init : goal.loop-p-init
loop-p-init c = put_none _ _ _

pub store-requires : goal.store-requires
store-requires c = omega (arith, c.loop-p.invariant.same)

pub loop-p-preserved : goal.loop-p-preserved
loop-p-preserved c =
    let put = c.store in
    let first = c.args.plan.first in
    put_next (stand_numbers_at first) 2 (stands_each first) c.args.numbers.now first_at c.requires c.loop-p.invariant (omega arith)
    (put.ensures ∙ ap (stored c.loop-p.numbers (first_at + 2 * c.loop-p.p)) (stand_there first c.loop-p.p)) put.auto.out

pub shape_of-numbers : goal.shape_of-numbers
shape_of-numbers c = c.loop-p.invariant.same

pub returns : goal.returns
returns c =
    put_all (stand_numbers_at c.args.plan.first) 2 (stands_each c.args.plan.first) c.args.numbers.now first_at c.requires c.loop-p.invariant (omega arith)
