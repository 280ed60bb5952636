-- `called::handed_makes` meets its contract: the check of the set and the plan that the numbers give. Assumes nothing.
use mathlib.Core.Path.{◌∙◌, ap₂}
use Rattle.plancheck.specs.Makes.{makes}
use Rattle.called.proofs.handed_makes.Goals as goal

pub returns : goal.returns
returns c = c.makes_plan.ensures ∙ ap₂ makes c.set_from.ensures c.plan_from.ensures
