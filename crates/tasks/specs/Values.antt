-- The figures of a header, of a task and of an interrupt, in the order of their lines' fields.
-- Document 01, "Field widths in digits"; document 02, Req 07 and Req 08.
use Rattle.std.specs.Prelude.{ℕ, List, [], ◌∷◌}
use Rattle.tasks.specs.declared.set.Header.{Header}
use Rattle.tasks.specs.declared.set.Task.{Task}
use Rattle.tasks.specs.declared.set.Interrupt.{Interrupt}
use Rattle.tasks.specs.Set.{given_or}

abbrev pub header_values : Header → List ℕ
header_values h =
    h.processors ∷ h.slot ∷ h.relj ∷ h.relo ∷ h.ctswo ∷ h.resd ∷ h.cpmdo ∷ []

-- those of an 03 line; an 02 line has the first four
abbrev pub task_values : Task → List ℕ
task_values t = t.id ∷ t.cost ∷ t.deadline ∷ t.period ∷ given_or t.cache 0 ∷ []

abbrev pub interrupt_values : Interrupt → List ℕ
interrupt_values i = i.processor ∷ i.cost ∷ i.deadline ∷ i.period ∷ i.jitter ∷ []
