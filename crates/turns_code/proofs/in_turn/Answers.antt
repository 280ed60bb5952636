-- The turn that was read is a task's place: its figures are there, and there is room at the turn and at the place.
use Rattle.std.proofs.Common.{ℕ, ◌≡◌, ◌+◌, ◌*◌, ◌-◌, ◌≤◌, length, get_or, arith}
use lib.ListN.{length-take}
use Rattle.turns_code.proofs.TurnLaws.{turned_none, turned_long, turned_next, turned_all}
use Rattle.turns_code.proofs.in_turn.Goals as goal
use Rattle.turns_code.proofs.in_turn.Goals.{In-loop-j}

pub loop-j-init : goal.loop-j-init
loop-j-init c = turned_none _ _ _

module _ (c : In-loop-j) where
  abbrev turn : ℕ
  turn = c.loop-j.j

  abbrev place : ℕ
  place = get_or c.args.turns.now turn 0

  there : (4 * place + 4 ≤ length c.args.figures.now) × (4 * turn + 4 ≤ length c.args.figures.now)
  there = (omega (arith, c.requires.below turn c.loop-j-test.true, c.requires.figures_there), omega (arith, c.loop-j-test.true, c.requires.figures_there))

  room : (4 * place + 4 ≤ length c.loop-j.numbers) × (4 * turn + 4 ≤ length c.loop-j.numbers)
  room =
      let long = turned_long c.requires c.loop-j.invariant in
      (omega (arith, c.requires.below turn c.loop-j-test.true, c.requires.few, long), omega (arith, c.loop-j-test.true, c.requires.few, long))

pub overflow_mul-from : goal.overflow_mul-from
overflow_mul-from c = omega (arith, there (goal.at.overflow_mul-from c).In-loop-j)

pub overflow_add-until : goal.overflow_add-until
overflow_add-until c = omega (arith, there (goal.at.overflow_add-until c).In-loop-j)

pub overflow_mul-j : goal.overflow_mul-j
overflow_mul-j c = omega (arith, there (goal.at.overflow_mul-j c).In-loop-j)

pub store-requires : goal.store-requires
store-requires c = simp length-take (omega (arith, room (goal.at.store-requires c).In-loop-j))

pub loop-j-preserved : goal.loop-j-preserved
loop-j-preserved c =
    let from = 4 * place (goal.at.loop-j-preserved c).In-loop-j in
    turned_next c.requires c.loop-j.invariant {m = from + 4 - from} c.loop-j-test.true c.store.ensures (omega arith)

pub returns : goal.returns
returns c =
    let all : c.loop-j.j ≡ c.args.n = omega (arith, c.loop-j.invariant.within, c.loop-j-test.false) in
    turned_all c.loop-j.invariant all
