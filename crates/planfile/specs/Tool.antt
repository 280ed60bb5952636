-- The whole tool, from the bytes of a task file to the bytes that `rota` prints: a plan, or one 1F line.
-- Document 01, "Lines of hexadecimal" (RULES 5).
use Rattle.std.specs.Prelude.{ℕ, List}
use Rattle.plantext.specs.Text.{plan_text}
use Rattle.planlines.specs.Line.{refusal_text}
use Rattle.taskplan.specs.declared.FileAnswer.{FileAnswer}
use Rattle.taskplan.specs.File.{unless, filed_of}

abbrev pub printed : FileAnswer → List ℕ
printed file = unless refusal_text file.outcome (plan_text file.set file.plan)

unfoldable pub answered : List ℕ → List ℕ
answered text = printed (filed_of text)
