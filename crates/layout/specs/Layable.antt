-- What laying out a plan asks of placed and sized servers: few tasks and servers, reserves from 1 to the slot, unused room at zero.
-- What placing and sizing answers for a set whose rows are clear has all of it.
use Rattle.std.specs.Prelude.{ℕ, ◌≤◌, ◌≡◌, take}
use Rattle.tasks.specs.Set.{most_tasks}
use Rattle.places.specs.Padded.{padded}
use Rattle.sizing.specs.declared.Servers.{Servers}
use Rattle.reserves.specs.Slotted.{SlottedFirst}

pub record Layable (served : Servers) (tasks S : ℕ) : Type 0 where
  pub tasks_few : tasks ≤ most_tasks
  pub servers_few : served.count ≤ most_tasks
  pub laid : SlottedFirst S served.reserve served.count
  pub reserve_room : padded (take served.count served.reserve) ≡ served.reserve
  pub placement_room : padded (take tasks served.placement) ≡ served.placement
