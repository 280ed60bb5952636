-- The board that the servers of a set stand on: its header, and its interrupts by processor. Document 02, Req 08.
use Rattle.std.specs.Prelude.{List}
use Rattle.interrupting.specs.Interrupts.{Bound}
use Rattle.tasks.specs.declared.set.TaskSet.{TaskSet}
use Rattle.tasks.specs.Set.{interrupts_in}
use Rattle.members.specs.Server.{Board}
use Rattle.byprocessor.specs.Interrupts.{by_processor}

unfoldable pub set_interrupts : TaskSet → List Bound
set_interrupts set = by_processor set.header.processors (interrupts_in set)

abbrev pub set_board : TaskSet → Board
set_board set = record { header = set.header; interrupts = set_interrupts set }
