-- The text of a plan: one 11 line, then 12 by server, 13 in file order, 14 by processor.
-- Document 01, "Lines of hexadecimal" (RULES 5.2).
use Rattle.std.specs.Prelude.{ℕ, ◌+◌, ◌*◌, List, ◌++◌}
use Rattle.frames.specs.Table.{length_of}
use Rattle.framelines.specs.Lines.{joined}
use Rattle.frames.specs.declared.table.Frame.{Frame}
use Rattle.tasks.specs.declared.set.TaskSet.{TaskSet}
use Rattle.tasks.specs.Set.{most_tasks, most_processors}
use Rattle.plan.specs.declared.plan.Plan.{Plan}
use Rattle.planlines.specs.Line.{plan_line, server_line, placed_line, processor_line}

unfoldable pub plan_text : TaskSet → Plan → List ℕ
plan_text set plan =
    plan_line plan
    ++ (joined (server_line plan) plan.servers
    ++ (joined (placed_line set plan) set.count ++ joined (processor_line plan) (plan.ring + plan.whole)))

-- the bytes of the longest text: as many servers as tasks, and every processor
abbrev pub longest_text : ℕ
longest_text =
    (length_of Frame.Plan + 1)
    + most_tasks * (length_of Frame.Server + 1)
    + most_tasks * (length_of Frame.Placed + 1)
    + most_processors * (length_of Frame.Processor + 1)
