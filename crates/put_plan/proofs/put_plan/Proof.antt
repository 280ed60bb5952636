-- The line of the plan's five figures.
-- Assumes nothing.
use native.Mathlib.Omega.{arith}
use borrow.Author.Rules.{rules}
use Rattle.frames.specs.Table.{widths_of}
use Rattle.planlines.specs.Line.{plan_line}
use Rattle.planlines.proofs.LineLaws.{plan_size, plan_bytes_lem}
use Rattle.put_plan.proofs.put_plan.Statement.{statement}
use Rattle.put_plan.proofs.put_plan.Tie as tie

put_line-requires : tie.Need-put_line-requires
unfolding widths_of
put_line-requires c κs = (omega arith, omega (arith, plan_size, plan_bytes_lem c.args.plan, c.requires))

returns : tie.Need-returns
unfolding plan_line
returns c = c.put_line.ensures

pub put_plan_spec : {M : Type 1} → statement M
put_plan_spec =
    tie.close
    (tie.spec
    (λ c. search rules)
    put_line-requires
    (λ c. search rules)
    returns)
