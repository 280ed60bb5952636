-- The question does a server pass with a reserve, about a set and its plan.
-- Document 01, "From tasks to servers to ring" (RULES 4.2) and row 11 of the refusals (RULES 6.5).
use Rattle.std.specs.Prelude.{ℕ, cond, ◌&&◌, Err, Ok}
use Rattle.refusals.specs.declared.Refusal.{Refusal}
use Rattle.refusals.specs.declared.Refusal.TheVariants.{Ask}
use Rattle.verdict.specs.declared.answer.Verdict.{Verdict}
use Rattle.verdict.specs.declared.answer.Verdict.TheVariants.{Yes}
use Rattle.members.specs.Server.{verdict_for}
use Rattle.tasks.specs.declared.set.TaskSet.{TaskSet}
use Rattle.plan.specs.declared.plan.Plan.{Plan}
use Rattle.plancheck.specs.Makes.{makes}
use Rattle.loads.specs.Charge.{server_loss}
use Rattle.plan.specs.declared.server.Server.{Server}
use Rattle.setfigures.specs.Board.{set_board}
use Rattle.named.specs.Named.{is_server, allowed}
use Rattle.planserver.specs.Members.{server_members, allowed_to}
use Rattle.planserver.specs.Recorded.{own_members}
use Rattle.doespass.specs.declared.PassAnswer.{PassAnswer}

-- a refused question has zeros
abbrev pub refused_pass : Refusal → PassAnswer
refused_pass r = record { outcome = Err r; verdict = Yes (record { length = 0; demand = 0; supply = 0 }) }

abbrev pub pass_answer : Verdict → PassAnswer
pass_answer verdict = record { outcome = Ok tt; verdict = verdict }

-- does a server pass with R, by its record
unfoldable pub own_pass : TaskSet → Server → (R : ℕ) → PassAnswer
own_pass set own R =
    cond
    (allowed set.header.slot (server_loss set.header (own_members set own)) R)
    (pass_answer (verdict_for (set_board set) (own_members set own) R))
    (refused_pass Ask)

-- does server q pass with R
unfoldable pub does_pass : TaskSet → Plan → (q R : ℕ) → PassAnswer
does_pass set plan q R =
    cond
    (makes set plan && (is_server plan q && allowed_to set q R))
    (pass_answer (verdict_for (set_board set) (server_members set q) R))
    (refused_pass Ask)
