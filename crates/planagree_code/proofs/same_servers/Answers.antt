-- Equally many servers: the first that differ decide, or none do. Assumes nothing.
use Rattle.std.proofs.Common.{sym, arith}
use Rattle.plan.specs.Plan.{no_server}
use Rattle.planagree.specs.Agrees.{same_used, same_servers}
use Rattle.planagree.proofs.Fronts.{front_apart, front_next, front_end}
use Rattle.planagree_code.proofs.same_servers.Goals as goal

pub returns-then-not-same_server : goal.returns-then-not-same_server
unfolding same_servers
returns-then-not-same_server c =
    let a = c.args.a in
    let b = c.args.b in
    rw c.requires.1
    (sym (front_apart same_used no_server a.server b.server b.servers (omega arith) (omega arith) c.loop-i.i c.loop-i.invariant
    c.loop-i-test.true (sym c.if-not-same_server.ensures)))

pub loop-i-preserved : goal.loop-i-preserved
loop-i-preserved c =
    front_next same_used no_server c.args.a.server c.args.b.server c.args.b.servers (omega arith) (omega arith) c.loop-i.i c.loop-i.invariant
    c.loop-i-test.true (sym c.if-not-same_server.ensures)

pub returns : goal.returns
unfolding same_servers
returns c =
    let a = c.args.a in
    let b = c.args.b in
    rw c.requires.1
    (sym (front_end same_used no_server a.server b.server b.servers (omega arith) (omega arith) c.loop-i.i c.loop-i.invariant c.loop-i-test.false))
