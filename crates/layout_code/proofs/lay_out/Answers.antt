-- The ring holds its reserves, there are no more processors than servers, and the parts are the layout.
-- Assumes nothing.
use Rattle.std.proofs.Common.{◌+◌, ◌≤◌, take, refl, ap, ◌∙◌, arith}
use lib.ListN.{set}
use Rattle.places.proofs.PaddedLaws.{filled_none, filled_next, filled_all}
use Rattle.plan.specs.declared.plan.Plan.{Plan}
use Rattle.layout.proofs.Layouts.{ring_fits, ring_covers, sum_few, with_servers, laid_made}
use Rattle.layout_code.proofs.lay_out.Goals as goal
use Rattle.layout_code.proofs.lay_out.Goals.{After-ring_processors-ring}

pub overflow_mul-idle : goal.overflow_mul-idle
overflow_mul-idle c = omega (arith, ring_fits c.requires.laid c.ring_processors-ring.ensures)

pub overflow_sub-idle : goal.overflow_sub-idle
overflow_sub-idle c = ring_covers c.requires.laid c.ring_processors-ring.ensures c.ring_ticks.ensures

-- there are no more processors than servers
few : (c : After-ring_processors-ring) → c.ring_processors-ring.result + c.whole_count-whole.result ≤ c.args.served.count
few c = sum_few c.requires.laid c.ring_processors-ring.ensures c.whole_count-whole.ensures

pub overflow_add-ring : goal.overflow_add-ring
overflow_add-ring c = omega (arith, few (goal.at.overflow_add-ring c).After-ring_processors-ring, c.requires.servers_few)

pub first_reserves-first-requires : goal.first_reserves-first-requires
first_reserves-first-requires c =
    let f = few (goal.at.first_reserves-first-requires c).After-ring_processors-ring in
    (c.requires.laid, omega (arith, c.ring_processors-ring.ensures, c.whole_count-whole.ensures), omega (arith, f, c.requires.servers_few))

pub loop-i-init : goal.loop-i-init
loop-i-init c =
    let none = ap (λ (p : Plan). p.server) c.zero.ensures in
    (rw none (filled_none _), refl)

pub loop-i-preserved : goal.loop-i-preserved
loop-i-preserved c =
    let inv = c.loop-i.invariant in (
      filled_next inv.0 refl (omega (arith, c.requires.servers_few)) c.server_of.ensures,
      ap (λ (p : Plan). with_servers p (set c.loop-i.plan.server c.loop-i.i c.server_of.result)) inv.1,
    )

pub returns : goal.returns
returns c =
    c.loop-i.invariant.1
    ∙ laid_made c.requires (take c.args.served.count c.args.served.cache) c.whole_count-whole.ensures c.ring_processors-ring.ensures c.ring_ticks.ensures
    (filled_all c.loop-i.invariant.0 (omega arith)) c.first_reserves-first.ensures
