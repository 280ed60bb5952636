-- What the rows say of a file that was read: its own refusal, or what rows 11 and 5 to 9 say of its set.
-- Document 01, "Refusal numbers and their order" (RULES 6).
use Rattle.refusals.specs.declared.Refusal.{Refusal}
use Rattle.std.specs.Prelude.{Err, Result, ℕ}
use Rattle.taskread.specs.declared.read.ReadAnswer.{ReadAnswer}
use Rattle.settling.specs.Settled.{set_rows}
use Rattle.taskplan.specs.File.{unless}

unfoldable pub read_rows : ReadAnswer → Result ℕ Refusal
read_rows a = unless Err a.outcome (set_rows a.set)
