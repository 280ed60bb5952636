-- The line that answers a question: the answer in plain words, or the 1F line where the question is refused.
-- README, "The two questions".
use Rattle.std.specs.Prelude.{ℕ, List}
use Rattle.whoruns.specs.declared.WhoAnswer.{WhoAnswer}
use Rattle.doespass.specs.declared.PassAnswer.{PassAnswer}
use Rattle.planlines.specs.Line.{refusal_text}
use Rattle.taskplan.specs.File.{unless}
use Rattle.answerwords.specs.Answers.{stand_line, verdict_line}

-- the line of the answer to who runs on processor p at tick x
abbrev pub who_line : WhoAnswer → (p x : ℕ) → List ℕ
who_line answer p x = unless refusal_text answer.outcome (stand_line answer.server answer.left p x)

-- and to does server q pass with R
abbrev pub pass_line : PassAnswer → (q R : ℕ) → List ℕ
pass_line answer q R = unless refusal_text answer.outcome (verdict_line answer.verdict q R)
