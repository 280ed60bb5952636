-- A question in the words of a command line: `who` with a processor and a tick, or `pass` with a server and a reserve, numbers in decimal;
-- and the line that answers it. Any other words are unclear. README, "The two questions".
use Rattle.std.specs.Prelude.{ℕ, List, [], cond, None, Option, Some}
use Rattle.laws.specs.Same.{same}
use Rattle.quoted.specs.Quoted.{bytes_of}
use Rattle.decimals.specs.Decimal.{decimal_of}
use Rattle.askfile.specs.OfFile.{who_in, pass_in}
use Rattle.answerline.specs.Lines.{who_line, pass_line}
use Rattle.askwords.specs.declared.Question.{Question}
use Rattle.askwords.specs.declared.Question.TheVariants.{Who, Pass, Unclear}

-- the question of a word and two numbers
unfoldable pub question_with : List ℕ → Option ℕ → Option ℕ → Question
question_with word (Some one) (Some other) =
    cond (same word (bytes_of "who")) (Who one other) (cond (same word (bytes_of "pass")) (Pass one other) Unclear)
question_with word (Some one) None = Unclear
question_with word None second = Unclear

unfoldable pub question_of : (word first second : List ℕ) → Question
question_of word first second = question_with word (decimal_of first) (decimal_of second)

-- the line that answers a question of a task file; nothing answers an unclear one
unfoldable pub line_for : Question → List ℕ → List ℕ
line_for (Who p x) text = who_line (who_in text p (record { 0 = x })) p x
line_for (Pass q R) text = pass_line (pass_in text q R) q R
line_for Unclear text = []
