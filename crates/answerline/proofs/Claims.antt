-- Proofs of what is promised of the lines of answers.
-- Assumes nothing.
use mathlib.Core.Path.{refl}
use Rattle.digits.specs.Digit.{digit_of}
use Rattle.digits.specs.Number.{hex}
use Rattle.frames.specs.Table.{kind_of, widths_of}
use Rattle.framewrite.specs.Line.{fields, line_of}
use Rattle.planlines.specs.Line.{refusal_text}
use Rattle.decimaltext.specs.Text.{digits_in, decimal_text}
use Rattle.wordline.specs.Words.{piece, left, said}
use Rattle.answerwords.specs.Answers.{stand_line, verdict_line}
use Rattle.answerline.specs.Claims as claims

pub ReadsSo : claims.ReadsSo
unfolding stand_line verdict_line said piece left decimal_text digits_in refusal_text line_of fields hex digit_of kind_of widths_of
ReadsSo = (refl, refl, refl, refl, refl, refl, refl)
