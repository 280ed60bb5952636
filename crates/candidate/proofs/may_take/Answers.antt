-- A server that is past the horizon with the task, or that B keeps it out of, does not take it; of any other the members decide.
use Rattle.std.proofs.Common.{ℕ, false, ◌≡◌, ◌+◌, ◌*◌, ◌<◌, max, sym, ◌∙◌, arith, rules}
use Rattle.loads.specs.Charge.{Overheads}
use Rattle.members.specs.Server.{board_of}
use Rattle.joining.proofs.CandidateLaws.{Candidate, candidates, own_work_fits, own_jobs_fit, own_cost_fits, share_cost_fits, cost_is, full, apart}
use Rattle.candidate.proofs.may_take.Goals as goal
use Rattle.candidate.proofs.may_take.Goals.{After-masked_out-apart}

-- what is kept of the server, and what the task brings
module _ (c : After-masked_out-apart) where
  comes : Candidate c.args.header c.args.figures.now c.args.placement.now c.args.i c.args.horizon c.args.q c.args.own c.args.share
  comes = record { file = c.requires.filed; brings = c.requires.share_value; keeps = c.requires.own_value }

  -- the header's overheads are numbers of two bytes
  overheads : Overheads c.args.header
  overheads = record { release = search rules; switch = search rules; delay = search rules }

  -- past the horizon with the task, the server does not take it
  past : {cost asked : ℕ} → asked ≡ c.args.own.work + c.args.share.work + cost * (c.args.own.jobs + c.args.share.jobs) → cost ≡ max c.args.own.cache c.args.share.cache →
      c.args.horizon < asked → candidates (board_of c.args.header c.args.interrupts.now) c.args.figures.now c.args.placement.now c.args.i c.args.q ≡ false
  past {cost} {asked} is cost-is more =
      let over : c.args.horizon < c.args.own.work + c.args.share.work + cost * (c.args.own.jobs + c.args.share.jobs) = omega (arith, is, more) in
      full comes cost-is c.requires.bounded over

pub overflow_add-own : goal.overflow_add-own
overflow_add-own c = let at = (goal.at.overflow_add-own c).After-masked_out-apart in omega (arith, own_work_fits (comes at) (overheads at))

pub overflow_add-own-2 : goal.overflow_add-own-2
overflow_add-own-2 c = omega (arith, own_jobs_fit (comes (goal.at.overflow_add-own-2 c).After-masked_out-apart))

pub total-asked-requires : goal.total-asked-requires
total-asked-requires c =
    let at = (goal.at.total-asked-requires c).After-masked_out-apart in
    (own_work_fits (comes at) (overheads at), own_jobs_fit (comes at), omega (arith, own_cost_fits (comes at), share_cost_fits (comes at)))

pub takes_task-requires-clause-cache_value : goal.takes_task-requires-clause-cache_value
takes_task-requires-clause-cache_value c = cost_is (comes (goal.at.takes_task-requires-clause-cache_value c).After-masked_out-apart) (omega arith)

pub returns-else-not-apart : goal.returns-else-not-apart
returns-else-not-apart c =
    let at = (goal.at.returns-else-not-apart c).After-masked_out-apart in
    sym (apart (comes at) c.requires.bounded c.masked_ticks-masked.ensures (sym c.masked_out-apart.ensures ∙ c.if-not-apart.false))

pub returns-else-asked-horizon : goal.returns-else-asked-horizon
returns-else-asked-horizon c =
    sym (past (goal.at.returns-else-asked-horizon c).After-masked_out-apart c.total-asked.ensures (omega arith) c.if-asked-horizon.false)
