-- The counts that a plan's rows have room for.
use Rattle.std.specs.Prelude.{◌+◌, ◌≤◌}
use Rattle.tasks.specs.declared.set.TaskSet.{TaskSet}
use Rattle.tasks.specs.Set.{most_tasks, most_processors}
use Rattle.plan.specs.declared.plan.Plan.{Plan}

-- a set and a plan whose rows have room for what they count
pub record CountsFit (set : TaskSet) (plan : Plan) : Type 0 where
  pub servers : plan.servers ≤ most_tasks
  pub tasks : set.count ≤ most_tasks
  pub processors : plan.ring + plan.whole ≤ most_processors
