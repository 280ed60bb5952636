-- The lines of a plan, one kind after the other, and the 1F line of a refusal.
-- Document 01, "Lines of hexadecimal" (RULES 5).
use Rattle.std.specs.Prelude.{ℕ, List, [], ◌∷◌}
use Rattle.framewrite.specs.Line.{line_of}
use Rattle.refusals.specs.Refused.{number_of, place_of}
use Rattle.frames.specs.declared.table.Frame.{Frame}
use Rattle.refusals.specs.declared.Refusal.{Refusal}
use Rattle.tasks.specs.declared.set.TaskSet.{TaskSet}
use Rattle.plan.specs.declared.plan.Plan.{Plan}
use Rattle.planfigures.specs.Figures.{server_figures, placed_figures, processor_figures}

-- the figures of the 11 line
abbrev pub plan_figures : Plan → List ℕ
plan_figures plan = plan.whole ∷ plan.ring ∷ plan.servers ∷ plan.slot ∷ plan.idle ∷ []

unfoldable pub plan_line : Plan → List ℕ
plan_line plan = line_of Frame.Plan (plan_figures plan)

unfoldable pub server_line : Plan → ℕ → List ℕ
server_line plan q = line_of Frame.Server (server_figures plan.server plan.slot q)

unfoldable pub placed_line : TaskSet → Plan → ℕ → List ℕ
placed_line set plan k = line_of Frame.Placed (placed_figures set.tasks plan.placement k)

unfoldable pub processor_line : Plan → ℕ → List ℕ
processor_line plan p = line_of Frame.Processor (processor_figures plan.first p)

unfoldable pub refusal_text : Refusal → List ℕ
refusal_text r = line_of Frame.Refused (number_of r ∷ place_of r ∷ [])
