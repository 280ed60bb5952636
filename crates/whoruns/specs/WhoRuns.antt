-- The question who runs on a processor at a tick, about a set and its plan.
-- Document 01, "From tasks to servers to ring" (RULES 4.1) and row 11 of the refusals (RULES 6.5).
use Rattle.std.specs.Prelude.{ℕ, cond, ◌&&◌, Err, Ok}
use Rattle.refusals.specs.declared.Refusal.{Refusal}
use Rattle.refusals.specs.declared.Refusal.TheVariants.{Ask}
use Rattle.ring.specs.declared.clock.Tick.{Tick}
use Rattle.ring.specs.declared.cover.Stand.{Stand}
use Rattle.ring.specs.Who.{who_of}
use Rattle.tasks.specs.declared.set.TaskSet.{TaskSet}
use Rattle.plan.specs.declared.plan.Plan.{Plan}
use Rattle.layout.specs.Made.{set_reserves}
use Rattle.plancheck.specs.Makes.{makes}
use Rattle.planprocessor.specs.Standing.{is_processor}
use Rattle.whoruns.specs.declared.WhoAnswer.{WhoAnswer}

-- a refused question has zeros
abbrev pub refused_who : Refusal → WhoAnswer
refused_who r = record { outcome = Err r; server = 0; left = 0 }

abbrev pub who_answer : Stand → WhoAnswer
who_answer stand = record { outcome = Ok tt; server = stand.server; left = stand.left }

-- who runs on processor p at tick x: the server (0 for idle) and the ticks left, this one included
unfoldable pub who_runs : TaskSet → Plan → (p : ℕ) → Tick → WhoAnswer
who_runs set plan p x =
    cond (makes set plan && is_processor plan p) (who_answer (who_of set.header.slot (set_reserves set) p x)) (refused_who Ask)
