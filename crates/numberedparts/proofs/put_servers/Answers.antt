-- `numberedparts::put_servers` meets its contract. The loop's invariant: the servers passed are put one behind the other.
-- Assumes nothing.
use Prim.Native.Nat.{◌+◌, ◌*◌}
use native.Mathlib.Omega.{arith}
use mathlib.Core.Path.{◌∙◌, ap}
use Rattle.digits.specs.Stored.{stored}
use Rattle.handed.specs.Handed.{servers_at, per_server}
use Rattle.numberedparts.specs.Parts.{server_numbers_at}
use Rattle.numberedparts.proofs.PartsLaws.{put_none, put_next, put_all, servers_each, server_there}
use Rattle.numberedparts.proofs.put_servers.Goals as goal

pub loop-q-init : goal.loop-q-init
loop-q-init c = put_none _ _ _

pub put_server-requires : goal.put_server-requires
put_server-requires c = omega (arith, c.loop-q.invariant.same)

pub loop-q-preserved : goal.loop-q-preserved
loop-q-preserved c =
    let put = c.put_server in
    let servers = c.args.plan.server in
    put_next (server_numbers_at servers) per_server (servers_each servers) c.args.numbers.now servers_at c.requires c.loop-q.invariant (omega arith)
    (put.ensures ∙ ap (stored c.loop-q.numbers (servers_at + per_server * c.loop-q.q)) (server_there servers c.loop-q.q)) put.auto.numbers

pub shape_of-numbers : goal.shape_of-numbers
shape_of-numbers c = c.loop-q.invariant.same

pub returns : goal.returns
returns c =
    put_all (server_numbers_at c.args.plan.server) per_server (servers_each c.args.plan.server) c.args.numbers.now servers_at c.requires c.loop-q.invariant (omega arith)
