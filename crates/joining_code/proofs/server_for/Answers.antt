-- A turn of the loop looks at one server more: it is found, refused or passed over.
use Rattle.std.proofs.Common.{◌≡◌, ◌+◌, ◌-◌, ◌<◌, sym, ◌∙◌, take, arith, rules}
use native.Mathlib.Numerals.{add-one}
use Rattle.tasks.specs.Set.{most_tasks}
use Rattle.places.specs.Places.{chosen}
use Rattle.loads.specs.Charge.{Overheads}
use Rattle.loads.specs.Figures.{figures_to}
use Rattle.members.specs.Server.{board_of}
use Rattle.shares.specs.Totals.{total_in}
use Rattle.joining.proofs.FitLaws.{join_fit_none}
use Rattle.joining.proofs.CandidateLaws.{candidates}
use Rattle.joining.proofs.StepLaws.{Coming, there, own_next, work_fits, jobs_fit, costs_fit, room_is}
use Rattle.joining.proofs.WalkLaws.{walk_begins, walk_moves, walk_refused, walk_passed, walk_found, walk_none}
use Rattle.joining_code.proofs.server_for.Goals as goal
use Rattle.joining_code.proofs.server_for.Goals.{In-loop-at, After-room_in-room, then-worth_asking+then-takes, then-worth_asking+else-takes, else-worth_asking}

pub loop-at-init : goal.loop-at-init
loop-at-init c = (
  walk_begins c.args.fit (λ q. c.args.horizon - total_in c.args.header c.args.horizon (chosen (figures_to c.args.figures.now c.args.i) (take c.args.i c.args.placement.now) q))
      (candidates (board_of c.args.header c.args.interrupts.now) c.args.figures.now c.args.placement.now c.args.i) c.args.lo 0,
  omega arith,
)

-- the server that is looked at
module _ (c : In-loop-at) where
  below : c.loop-at.at < most_tasks
  below = omega (arith, c.loop-at-test.true, c.requires.i_in_bounds)

  -- what is kept, and what the task brings
  coming : Coming c.args.header c.args.figures.now c.args.placement.now c.args.i c.args.horizon c.args.kept.now c.args.share
  coming = record { file = c.requires.filed; servers = c.requires.kept; brings = c.requires.share_value }

  -- the header's overheads are numbers of two bytes
  overheads : Overheads c.args.header
  overheads = record { release = search rules; switch = search rules; delay = search rules }

pub bounds-kept-at : goal.bounds-kept-at
bounds-kept-at c = let at = (goal.at.bounds-kept-at c).In-loop-at in there (coming at) c.loop-at.at (below at)

pub room_in-room-requires : goal.room_in-room-requires
room_in-room-requires c =
    let at = (goal.at.room_in-room-requires c).In-loop-at in (
      omega (arith, work_fits (coming at) c.loop-at.at (below at) (overheads at)),
      omega (arith, jobs_fit (coming at) c.loop-at.at (below at)),
      omega (arith, (costs_fit (coming at) c.loop-at.at (below at)).0),
    )

pub may_take-takes-requires-clause-own_value : goal.may_take-takes-requires-clause-own_value
may_take-takes-requires-clause-own_value c =
    let at = (goal.at.may_take-takes-requires-clause-own_value c).In-loop-at in
    own_next (coming at) c.loop-at.at (below at)

-- its room is known
own_room : (c : After-room_in-room) →
    c.room_in-room.result ≡ c.args.horizon - total_in c.args.header c.args.horizon (chosen (figures_to c.args.figures.now c.args.i) (take c.args.i c.args.placement.now) (c.loop-at.at + 1))
own_room c =
    let coming : Coming c.args.header c.args.figures.now c.args.placement.now c.args.i c.args.horizon c.args.kept.now c.args.share = record { file = c.requires.filed; servers = c.requires.kept; brings = c.requires.share_value } in
    c.room_in-room.ensures ∙ room_is coming c.loop-at.at (omega (arith, c.loop-at-test.true, c.requires.i_in_bounds))

pub loop-at-preserved : goal.loop-at-preserved
loop-at-preserved c =
    let room = own_room (goal.at.loop-at-preserved c).After-room_in-room in
    let walked = c.loop-at.invariant.0 in (
      (elim c.if-worth_asking.branch [
        | then-worth_asking+then-takes w ↦ rw (w.found-is, w.held-is) (walk_moves walked room (sym c.worth_asking.ensures ∙ w.if-worth_asking.true) (sym w.may_take-takes.ensures ∙ w.if-takes.true))
        | then-worth_asking+else-takes w ↦ rw (w.found-is, w.held-is) (walk_refused walked (sym w.may_take-takes.ensures ∙ w.if-takes.false))
        | else-worth_asking w ↦ rw (w.found-is, w.held-is) (walk_passed walked room (sym c.worth_asking.ensures ∙ w.if-worth_asking.false))
      ]),
      omega (arith, c.loop-at-test.true),
    )

pub returns-then-found-eq0 : goal.returns-then-found-eq0
returns-then-found-eq0 c =
    let l = c.loop-at in
    add-one _ ∙ sym (join_fit_none _ _ _ _ _ (walk_none l.invariant.0 (omega (arith, c.loop-at-test.false)) l.invariant.1 c.if-found-eq0.true))

pub returns : goal.returns
returns c =
    let l = c.loop-at in
    sym (walk_found l.invariant.0 (omega (arith, c.loop-at-test.false)) l.invariant.1 c.if-found-eq0.false)
