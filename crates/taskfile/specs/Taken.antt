-- Where the reader stands after some lines.
-- Document 01, "Reading takes lines in order" (RULES 6.2); document 02, Req 05, 07 and 08.
use Rattle.std.specs.Prelude.{ℕ, ◌+◌, ◌≤◌, true, List, [], map, ◌≡◌, length, drop, Ok}
use Rattle.refusals.specs.First.{till}
use Rattle.tasks.specs.declared.set.Task.{Task}
use Rattle.tasks.specs.Set.{most_tasks, most_interrupts}
use Rattle.taskfile.specs.File.{past, line_outcome, opening_lines, tasks_among, interrupts_among, task_formed}

-- the reader has taken k lines, at least those before the tasks: each is clear, and the rest of the text starts at the cursor
pub record Taken (text : List ℕ) (k at : ℕ) : Type 0 where
  pub opened : opening_lines text ≤ k
  pub within : at ≤ length text
  pub rest : past k text ≡ drop at text
  pub clear : till (line_outcome text) k ≡ Ok tt
  -- all lines but the first three at most hold a task or an interrupt, and there is room for these
  pub lines : k ≤ length (tasks_among text k) + length (interrupts_among text k) + 3
  pub few : length (tasks_among text k) ≤ most_tasks
  pub fewer : length (interrupts_among text k) ≤ most_interrupts

-- and no 07 line is among them, so that a task's line may follow
pub record Tasked (text : List ℕ) (k at : ℕ) : Type 0 where
  pub taken : Taken text k at
  pub none : interrupts_among text k ≡ []

-- or an 07 line is, if a task's line follows: that comes too late
pub record BehindTasks (text : List ℕ) (k at : ℕ) : Type 0 where
  pub taken : Taken text k at
  pub late : task_formed (drop at text) ≡ true → 1 ≤ length (interrupts_among text k)

-- the ids of these tasks
abbrev pub ids_of : List Task → List ℕ
ids_of ts = map (λ (t : Task). t.id) ts
