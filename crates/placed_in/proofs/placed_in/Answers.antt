-- The tasks up to the next are a file, and the server that the step answers for it has its place in the rows.
use Rattle.std.proofs.Common.{ℕ, ◌≡◌, ◌+◌, ◌-◌, ◌≤◌, ◌<◌, max, List, take, get_or, set, refl, sym, ap, subst, ◌∙◌, arith, rules}
use Rattle.demand.specs.Load.{each}
use Rattle.demand.proofs.Demand.{each_next}
use Rattle.tasks.specs.Set.{most_tasks}
use Rattle.places.proofs.MadeLaws.{made_to}
use Rattle.loads.specs.Figures.{Figures, figures_at, figures_to}
use Rattle.loads.specs.Charge.{Overheads}
use Rattle.members.specs.Server.{board_of, Filed}
use Rattle.members.proofs.FiledLaws.{filed_first}
use Rattle.shares.specs.declared.Share.{Share}
use Rattle.joining.proofs.StepLaws.{Coming, work_fits, jobs_fit}
use Rattle.joining.specs.Kept.{no_share}
use Rattle.joining.specs.Soonest.{soonest_with}
use Rattle.servers.specs.Placement.{join_by, placed_by, cache_in, placed}
use Rattle.servers.proofs.SoFarLaws.{SoFar, so_far_none, so_far_room, so_far_few, so_far_kept, so_far_fit, so_far_range, so_far_next, so_far_cost, so_far_placed}
use Rattle.placed_in.proofs.placed_in.Goals as goal
use Rattle.placed_in.proofs.placed_in.Goals.{In-loop-i, After-server_for-q}

pub loop-i-init : goal.loop-i-init
unfolding each
loop-i-init c = so_far_none _ _ _

-- the tasks up to the next are a file
module _ (c : In-loop-i) where
  file : Filed c.args.header c.args.figures.now (c.loop-i.i + 1) c.args.horizon
  file = filed_first (c.loop-i.i + 1) (omega (arith, c.loop-i-test.true)) c.requires.filed

  below : c.loop-i.i < most_tasks
  below = omega (arith, c.loop-i-test.true, c.requires.filed.few)

pub share_of-share-requires : goal.share_of-share-requires
share_of-share-requires c = file (goal.at.share_of-share-requires c).In-loop-i

pub server_for-q-requires-clause-filed : goal.server_for-q-requires-clause-filed
server_for-q-requires-clause-filed c = file (goal.at.server_for-q-requires-clause-filed c).In-loop-i

pub server_for-q-requires-clause-i_in_bounds : goal.server_for-q-requires-clause-i_in_bounds
server_for-q-requires-clause-i_in_bounds c =
    let w = c.loop-i.invariant in
    (omega (arith, w.few, so_far_room w), omega (arith, w.few, so_far_few w))

pub server_for-q-requires-clause-kept : goal.server_for-q-requires-clause-kept
server_for-q-requires-clause-kept c = so_far_kept c.loop-i.invariant

-- the server that the step answers for the next task
module _ (c : After-server_for-q) where
  abbrev next : Figures
  next = figures_at c.args.figures.now c.loop-i.i

  abbrev q : ℕ
  q = c.server_for-q.result

  picked : q ≡ join_by c.args.fit (board_of c.args.header c.args.interrupts.now) c.args.horizon (figures_to c.args.figures.now c.loop-i.i) (take c.loop-i.i c.loop-i.placement) next
  picked = so_far_fit c.loop-i.invariant next q c.server_for-q.ensures

  range : (1 ≤ q) × (q ≤ c.loop-i.i + 1)
  range = so_far_range c.loop-i.invariant next q picked

  in_row : q - 1 < most_tasks
  in_row = omega (arith, range, c.loop-i-test.true, c.requires.filed.few)

  coming : Coming c.args.header c.args.figures.now c.loop-i.placement c.loop-i.i c.args.horizon c.loop-i.kept
      c.share_of-share.result
  coming =
      record {
        file = filed_first (c.loop-i.i + 1) (omega (arith, c.loop-i-test.true)) c.requires.filed;
        servers = so_far_kept c.loop-i.invariant;
        brings = c.share_of-share.ensures;
      }

  -- the header's overheads are numbers of two bytes
  overheads : Overheads c.args.header
  overheads = record { release = search rules; switch = search rules; delay = search rules }

  abbrev own : Share
  own = get_or c.loop-i.kept (q - 1) no_share

  -- with the task in it
  joined : {more v j cost least : ℕ} → more ≡ max c.loop-i.count q → v ≡ own.work + c.share_of-share.result.work →
      j ≡ own.jobs + c.share_of-share.result.jobs → cost ≡ max own.cache c.share_of-share.result.cache →
      least ≡ soonest_with own.due c.share_of-share.result.due →
      SoFar c.args.fit (board_of c.args.header c.args.interrupts.now) c.args.horizon (figures_to c.args.figures.now (c.loop-i.i + 1)) (c.loop-i.i + 1)
      (set c.loop-i.placement c.loop-i.i q) (set c.loop-i.kept (q - 1) (record { work = v; jobs = j; cache = cost; due = least })) more
  joined {more} {v} {j} {cost} {least} counted is-work is-jobs is-cost is-due =
      let l = c.loop-i in
      subst
      (λ (fs : List Figures).
      SoFar c.args.fit (board_of c.args.header c.args.interrupts.now) c.args.horizon fs (l.i + 1) (set l.placement l.i q)
      (set l.kept (q - 1) (record { work = v; jobs = j; cache = cost; due = least })) more)
      (sym (each_next (figures_at c.args.figures.now) l.i))
      (so_far_next l.invariant next q (q - 1) more (omega (arith, c.loop-i-test.true, c.requires.filed.few))
      (filed_first l.i (omega (arith, c.loop-i-test.true)) c.requires.filed).members picked refl counted c.share_of-share.ensures is-work is-jobs is-cost is-due)

pub overflow_sub-at : goal.overflow_sub-at
overflow_sub-at c = (range (goal.at.overflow_sub-at c).After-server_for-q).0

pub prove-unreachable-requires : goal.prove-unreachable-requires
prove-unreachable-requires c = omega (arith, in_row (goal.at.prove-unreachable-requires c).After-server_for-q)

pub overflow_add-kept : goal.overflow_add-kept
overflow_add-kept c =
    let at = (goal.at.overflow_add-kept c).After-server_for-q in
    omega (arith, work_fits (coming at) (q at - 1) (in_row at) (overheads at), jobs_fit (coming at) (q at - 1) (in_row at))

pub overflow_add-kept-in-loop-i : goal.overflow_add-kept-in-loop-i
overflow_add-kept-in-loop-i c =
    let at = (goal.at.overflow_add-kept-in-loop-i c).After-server_for-q in
    omega (arith, jobs_fit (coming at) (q at - 1) (in_row at))

pub loop-i-preserved : goal.loop-i-preserved
loop-i-preserved c =
    joined (goal.at.loop-i-preserved c).After-server_for-q (omega arith) refl refl (omega arith) c.soonest_with.ensures

pub returns : goal.returns
returns c =
    let l = c.loop-i in
    let e : l.i ≡ c.args.n = omega arith in
    so_far_placed l.invariant
    (made_to _ (cache_in (figures_to c.args.figures.now c.loop-i.i)
    (placed_by c.args.fit (board_of c.args.header c.args.interrupts.now) c.args.horizon (figures_to c.args.figures.now c.loop-i.i))) most_tasks
    (λ i y q h called. search (rules, so_far_cost c.loop-i.invariant i h)) c.from_fn.ensures.items) ∙
    ap (λ (i : ℕ).
    placed (figures_to c.args.figures.now i) (placed_by c.args.fit (board_of c.args.header c.args.interrupts.now) c.args.horizon (figures_to c.args.figures.now i))) e
