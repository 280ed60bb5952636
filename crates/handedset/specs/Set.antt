-- The set that is handed in as numbers: its count, the seven figures of the header, the two of the 05 line and of the 06 line, then
-- each place of the tasks, the count of the interrupts and each place of them.
use Rattle.std.specs.Prelude.{ℕ, ◌+◌, ◌*◌, ◌-◌, List}
use Rattle.tasks.specs.declared.set.Task.{Task}
use Rattle.tasks.specs.declared.set.TaskSet.{TaskSet}
use Rattle.tasks.specs.Set.{most_tasks}
use Rattle.places.specs.Padded.{up_to}
use Rattle.handed.specs.Handed.{number_at, byte_at, word_at, optional_from, tasks_at}
use Rattle.handedheader.specs.Header.{header_from}
use Rattle.handedinterrupts.specs.Interrupts.{interrupts_from}

-- the task whose numbers stand from a place on
abbrev pub task_from : (numbers : List ℕ) (at : ℕ) → Task
task_from ns at =
    record {
      id = byte_at ns at;
      cost = word_at ns (at + 1);
      deadline = word_at ns (at + 2);
      period = word_at ns (at + 3);
      cache = optional_from ns (at + 4);
    }

unfoldable pub set_from : (numbers : List ℕ) → TaskSet
set_from ns =
    record {
      header = header_from ns;
      count = number_at ns 0;
      tasks = up_to (λ (k : ℕ). task_from ns (tasks_at + 6 * (k - 1))) most_tasks;
      interrupts = interrupts_from ns;
    }
