-- `pass` meets its contract: a plan that is checked is asked, and no other.
-- Assumes nothing.
use mathlib.Core.Path.{sym, ◌∙◌}
use Rattle.doespass.proofs.PassLaws.{pass_unmade}
use Rattle.doespass_code.proofs.pass.Goals as goal

pub pass_made-requires : goal.pass_made-requires
pass_made-requires c = sym c.makes_plan.ensures ∙ c.if-makes_plan.true

pub returns-then-makes_plan : goal.returns-then-makes_plan
returns-then-makes_plan c = c.pass_made.ensures

pub returns-else-makes_plan : goal.returns-else-makes_plan
returns-else-makes_plan c =
    c.refused_pass.ensures ∙ pass_unmade c.args.set c.args.plan (sym c.makes_plan.ensures ∙ c.if-makes_plan.false) c.args.server c.args.reserve
