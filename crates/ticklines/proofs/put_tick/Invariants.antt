-- The lines of the first i processors are put, these are carried past the tick, and the least end is theirs.
use Rattle.std.proofs.Common.{suc, ◌≡◌, ◌*◌, take, drop}
use Rattle.switchline.specs.Before.{until_before}
use Rattle.ticklines.specs.Walk.{least_of}
use Rattle.ticklines.proofs.TickLaws.{Walked}
use Rattle.ticklines.proofs.put_tick.Given as goal

abbrev pub invariant-loop-i : goal.invariant-loop-i
invariant-loop-i l =
    Walked l.turn.slot (take l.turn.servers l.reserves) l.tick l.turn.ring l.fn.out l.at l.out l.servers l.until l.next l.i
    × (l.least ≡ least_of (λ p. until_before l.turn.slot (take l.turn.servers l.reserves) p (suc l.tick)) (l.turn.ring * l.turn.slot) l.i)
    × (drop l.turn.ring l.servers ≡ drop l.turn.ring l.fn.servers) × (drop l.turn.ring l.until ≡ drop l.turn.ring l.fn.until)
