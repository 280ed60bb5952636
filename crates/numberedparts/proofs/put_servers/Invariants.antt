use Rattle.handed.specs.Handed.{servers_at}
use Rattle.numberedparts.specs.Parts.{server_numbers_at}
use Rattle.numberedparts.proofs.PartsLaws.{PutFirst}
use Rattle.numberedparts.proofs.put_servers.Given as goal

abbrev pub invariant-loop-q : goal.invariant-loop-q
invariant-loop-q l = PutFirst (server_numbers_at l.fn.plan.server) l.initial.numbers servers_at l.numbers l.q
