-- The load of the place at hand is written behind those that are there.
use Rattle.std.proofs.Common.{sym, arith}
use Rattle.digits.proofs.Stored.{stored_nil}
use Rattle.loads.specs.Charge.{numbers_of}
use Rattle.loads.proofs.ChargeLaws.{charge_step}
use Rattle.loads_code.proofs.charge.Goals as goal

pub loop-i-init : goal.loop-i-init
unfolding numbers_of
loop-i-init c = sym (stored_nil _ _)

pub loop-i-preserved : goal.loop-i-preserved
loop-i-preserved c =
    charge_step c.args.header c.args.cache c.args.figures.now c.args.places.now c.loop-i.i c.args.loads.now
    (omega (arith, c.requires.places_there, c.loop-i-test.true)) (omega (arith, c.requires.room, c.loop-i-test.true)) c.loop-i.invariant
    c.charged_cost.ensures c.charged_deadline.ensures
