-- What taking tasks into their turns, and servers back into file order, asks of the slices. Document 02, Req 05.
use Rattle.std.specs.Prelude.{ℕ, ◌*◌, ◌≤◌, List, length}
use Rattle.tasks.specs.Set.{most_tasks}
use Rattle.sorting.specs.Below.{Below}

-- the figures of n tasks and their turns
pub record Turned (figures turns : List ℕ) (n : ℕ) : Type 0 where
  pub few : n ≤ most_tasks
  pub figures_there : 4 * n ≤ length figures
  pub turns_there : n ≤ length turns
  pub below : Below turns n

-- the turns of n tasks and the servers of these turns
pub record Assigned (turns placement : List ℕ) (n : ℕ) : Type 0 where
  pub few : n ≤ most_tasks
  pub turns_there : n ≤ length turns
  pub servers_there : n ≤ length placement
  pub below : Below turns n
