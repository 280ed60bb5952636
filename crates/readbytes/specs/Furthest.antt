-- How many bytes of a text reading looks at.
-- Document 01, "Refusal numbers and their order" (RULES 6); document 02, Req 04, 05, 07 and 08.
use Rattle.std.specs.Prelude.{ℕ, ◌+◌, ◌*◌}
use Rattle.frames.specs.Table.{length_of}
use Rattle.frames.specs.declared.table.Frame.{Frame}
use Rattle.tasks.specs.Set.{most_tasks, most_interrupts}

-- a header, a 05 line, a 06 line, 64 tasks in 03 lines, the longer ones, 32 interrupts and the longest line after them
abbrev pub furthest : ℕ
furthest =
    (length_of Frame.Header + 1) + (length_of Frame.Masked + 1) + (length_of Frame.Rule + 1) + (length_of Frame.Cached + 1) * most_tasks + (length_of Frame.Interrupt + 1) * most_interrupts + (length_of Frame.Header + 1)
