-- `who::who` meets its contract: a ring processor by its position, any other by its own server.
-- Assumes nothing.
use Prim.Native.Nat.{◌≤◌, ◌<◌}
use mathlib.Core.Path.{◌∙◌}
use native.Mathlib.Nat.{mod-lt, le_of_lt}
use native.Mathlib.Omega.{arith}
use Rattle.ring.proofs.WhoLaws.{phase_asks, phase_lands, who_lands, who_own}
use borrow.Author.Rules.{rules}
use Rattle.ring_who.proofs.who.Statement.{statement}
use Rattle.ring_who.proofs.who.Tie as tie

position-at-requires : tie.Need-position-at-requires
position-at-requires c κs =
    let l : c.args.processor ≤ c.ring_processors-ring.result = omega (arith, c.if-processor-ring.true) in
    phase_asks c.requires.0 c.ring_processors-ring.ensures c.requires.1 l

stand_at-requires : tie.Need-stand_at-requires
stand_at-requires c κs =
    let l : c.args.processor ≤ c.ring_processors-ring.result = omega (arith, c.if-processor-ring.true) in
    (c.requires.0, phase_lands c.requires.0 c.ring_processors-ring.ensures c.position-at.result c.args.tick c.requires.1 l c.position-at.ensures)

returns-then-processor-ring : tie.Need-returns-then-processor-ring
returns-then-processor-ring c =
    let l : c.args.processor ≤ c.ring_processors-ring.result = omega (arith, c.if-processor-ring.true) in
    c.stand_at.ensures ∙
    who_lands c.requires.0 c.ring_processors-ring.ensures c.position-at.result c.args.tick l c.position-at.ensures

overflow_sub-result : tie.Need-overflow_sub-result
overflow_sub-result c = le_of_lt (mod-lt c.args.tick.0 c.requires.0.slot_some)

returns : tie.Need-returns
returns c =
    let l : c.ring_processors-ring.result < c.args.processor = omega (arith, c.if-processor-ring.false) in
    who_own c.requires.0 c.ring_processors-ring.ensures c.whole_server-server.result c.args.tick l c.whole_server-server.ensures

pub who_spec : {M : Type 1} → statement M
who_spec =
    tie.close
    (tie.spec
    (λ c κs. search rules)
    position-at-requires
    stand_at-requires
    returns-then-processor-ring
    (λ c. search rules)
    (λ c. search rules)
    (λ c κs. search rules)
    (λ c. search rules)
    overflow_sub-result
    returns)
