-- `handedplan::plan_from` meets its contract: the five figures are the first numbers, the rest is taken row by row. Assumes nothing.
use Rattle.handedplan.specs.Plan.{plan_from}
use Rattle.handedplan.proofs.plan_from.Goals as goal

pub returns : goal.returns
unfolding plan_from
returns c =
    rw (
      c.number_at.ensures,
      c.number_at-2.ensures,
      c.number_at-3.ensures,
      c.number_at-4.ensures,
      c.number_at-5.ensures,
      c.servers_from.ensures,
      c.placement_from.ensures,
      c.first_from.ensures,
    )
