-- The lines that a task file may do without.
-- Document 02, Req 04 and Req 05: a 05 line and a 06 line behind the 01 line; Req 08: 07 lines after all tasks.
use Rattle.std.specs.Prelude.{ℕ, ◌*◌, List, [], ◌∷◌, None, Option, Some}
use Rattle.framewrite.specs.Line.{line_of}
use Rattle.framelines.specs.Each.{each_line, each_figures}
use Rattle.frames.specs.declared.table.Frame.{Frame}
use Rattle.tasks.specs.declared.set.Interrupt.{Interrupt}
use Rattle.tasks.specs.Set.{most_interrupts, zero_interrupt}
use Rattle.tasks.specs.Values.{interrupt_values}

-- the line of a frame of one field (05 or 06), where the set has one
unfoldable pub optional_line : Frame → Option ℕ → List ℕ
optional_line frame None = []
optional_line frame (Some figure) = line_of frame (figure ∷ [])

-- the 07 line of an interrupt, and those of all, in file order
abbrev pub interrupt_line : Interrupt → List ℕ
interrupt_line i = line_of Frame.Interrupt (interrupt_values i)

abbrev pub interrupt_lines : List Interrupt → List ℕ
interrupt_lines is = each_line interrupt_line is

-- the figures of the 07 line of interrupt k, from 1
abbrev pub interrupt_figures : List Interrupt → ℕ → List ℕ
interrupt_figures is = each_figures interrupt_values zero_interrupt is

-- the figures of as many 07 lines as a set has room for
abbrev pub most_figures : ℕ
most_figures = 5 * most_interrupts
