-- The own figures of a set's tasks, in file order, and their numbers with the unused room at zero.
-- Document 01, "The numbers of a task set" (RULES 1).
use Rattle.std.specs.Prelude.{ℕ, ◌*◌, List, map, replicate}
use Rattle.digits.specs.Stored.{stored}
use Rattle.tasks.specs.declared.set.TaskSet.{TaskSet}
use Rattle.tasks.specs.Set.{most_tasks, members}
use Rattle.loads.specs.Figures.{Figures, figures_of, own_numbers}

unfoldable pub set_figures : TaskSet → List Figures
set_figures set = map (figures_of set.header) (members set)

unfoldable pub figure_numbers : TaskSet → List ℕ
figure_numbers set = stored (replicate (4 * most_tasks) 0) 0 (own_numbers (set_figures set))
