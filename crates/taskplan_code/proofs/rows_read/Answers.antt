-- The reader's answer taken apart: what the rows say of its set, or its refusal handed on.
-- Assumes nothing.
use Rattle.std.specs.Prelude.{Err}
use mathlib.Core.Path.{refl, ◌∙◌}
use Rattle.taskread.specs.declared.read.ReadAnswer.{ReadAnswer}
use Rattle.settling.specs.Settled.{set_rows}
use Rattle.taskplan.proofs.FileLaws.{when_done, when_refused}
use Rattle.filerows.specs.Read.{read_rows}
use Rattle.taskplan_code.proofs.rows_read.Goals as goal

pub returns-in-Ok : goal.returns-in-Ok
unfolding read_rows
returns-in-Ok c =
    c.rows_of.ensures
    ∙ when_done Err (λ (a : ReadAnswer). a.outcome) (λ (a : ReadAnswer). set_rows a.set) refl c.in-Ok.is

pub returns-in-Err : goal.returns-in-Err
unfolding read_rows
returns-in-Err c = when_refused Err (λ (a : ReadAnswer). a.outcome) (λ (a : ReadAnswer). set_rows a.set) refl c.in-Err.is
