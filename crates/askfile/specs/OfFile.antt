-- The two questions of a task file: a file that is refused, or whose plan is, refuses the question as it was refused.
-- Document 01, "From tasks to servers to ring" (RULES 4.1 and 4.2) and "a refused question zeros".
use Rattle.std.specs.Prelude.{ℕ, List}
use Rattle.ring.specs.declared.clock.Tick.{Tick}
use Rattle.whoruns.specs.declared.WhoAnswer.{WhoAnswer}
use Rattle.doespass.specs.declared.PassAnswer.{PassAnswer}
use Rattle.whoruns.specs.WhoRuns.{who_runs, refused_who}
use Rattle.doespass.specs.DoesPass.{does_pass, refused_pass}
use Rattle.taskplan.specs.declared.FileAnswer.{FileAnswer}
use Rattle.taskplan.specs.File.{unless, filed_of}

-- who runs on processor p at tick x, by the plan of a file
abbrev pub who_of_file : (p : ℕ) → Tick → FileAnswer → WhoAnswer
who_of_file p x file = unless refused_who file.outcome (who_runs file.set file.plan p x)

unfoldable pub who_in : List ℕ → (p : ℕ) → Tick → WhoAnswer
who_in text p x = who_of_file p x (filed_of text)

-- does server q pass with R, by the plan of a file
abbrev pub pass_of_file : (q R : ℕ) → FileAnswer → PassAnswer
pass_of_file q R file = unless refused_pass file.outcome (does_pass file.set file.plan q R)

unfoldable pub pass_in : List ℕ → (q R : ℕ) → PassAnswer
pass_in text q R = pass_of_file q R (filed_of text)
