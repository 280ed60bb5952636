-- `who` meets its contract: a plan that is checked is asked, and no other.
-- Assumes nothing.
use mathlib.Core.Path.{sym, ◌∙◌}
use Rattle.whoruns.proofs.WhoLaws.{who_unmade}
use Rattle.whoruns_code.proofs.who.Goals as goal

pub who_made-requires : goal.who_made-requires
who_made-requires c = sym c.makes_plan.ensures ∙ c.if-makes_plan.true

pub returns-then-makes_plan : goal.returns-then-makes_plan
returns-then-makes_plan c = c.who_made.ensures

pub returns-else-makes_plan : goal.returns-else-makes_plan
returns-else-makes_plan c =
    c.refused_who.ensures ∙ who_unmade c.args.set c.args.plan (sym c.makes_plan.ensures ∙ c.if-makes_plan.false) c.args.processor c.args.tick
