-- The places passed hold the records of the servers so far, and the rest of the plan stays.
use Rattle.std.proofs.Common.{◌≡◌, take}
use Rattle.places.proofs.PaddedLaws.{FilledWith}
use Rattle.plan.specs.Plan.{zero_server}
use Rattle.layout.specs.Layout.{server_of}
use Rattle.layout.proofs.Layouts.{with_servers}
use Rattle.layout_code.proofs.lay_out.Given as goal

abbrev pub invariant-loop-i : goal.invariant-loop-i
invariant-loop-i l =
    FilledWith zero_server (server_of l.slot (take l.n l.cache) (take l.tasks l.placement) (take l.n l.reserve)) l.i l.plan.server
    × (l.plan ≡ with_servers l.initial.plan l.plan.server)
